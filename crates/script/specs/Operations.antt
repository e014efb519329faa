-- The numbers of the operations.
use Rattle.std.specs.Prelude.{◌≡◌, ◌<◌, ◌≤◌, ℕ, Result, MatchResult}
use Rattle.script.specs.declared.Fault.{Fault}
use Rattle.script.specs.declared.Fault.TheVariants.{Odd}
use Rattle.script.specs.declared.Operation.{Operation}
use Rattle.script.specs.declared.Operation.TheVariants.{Open, Grow, Store, Load, Release, Size, Recover}

abbrev pub operation_no : Operation → ℕ
operation_no Open = 1
operation_no Grow = 2
operation_no Store = 3
operation_no Load = 4
operation_no Release = 5
operation_no Size = 6
operation_no Recover = 7

-- the operation of that number, or the number is that of none
abbrev pub Operates : ℕ → Result Operation Fault → Type 0
Operates n r = MatchResult r (λ o. operation_no o ≡ n) (λ f. (f ≡ Odd) × (1 ≤ n → 7 < n))
