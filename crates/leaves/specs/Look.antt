-- A look for a byte that is not zero.
use Rattle.std.specs.Prelude.{ℕ, cond, List, eqb, get_or, length}
use Rattle.laws.specs.Folds.{all_below}

unfoldable pub looked : List ℕ → ℕ
looked bytes = cond (all_below (length bytes) (λ i. eqb (get_or bytes i 0) 0)) 1 0
