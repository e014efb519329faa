-- The sum of a list, byte by byte from the front.
use Prim.Native.Nat.{ℕ, zero, suc, ◌+◌, ◌≤◌}
use mathlib.Core.Path.{◌≡◌, refl, sym, ◌∙◌, ap}
use mathlib.Core.List.{List, [], ◌∷◌}
use native.Mathlib.Omega.{arith}
use lib.ListN.{length, get_or, take}
use Rattle.std.proofs.Math.Seq.{take-suc}
use Rattle.std.proofs.lemmas.List.{take_all}
use Rattle.std.proofs.lemmas.List.Sums.{fold-append}
use Rattle.std.specs.List.{sum}
use Rattle.laws.specs.Folds.{sum_below}
use Rattle.paper.specs.Script.{sum_of}

sum_front : (xs : List ℕ) (n : ℕ) → n ≤ length xs → sum_below n (λ i. get_or xs i 0) ≡ sum (take n xs)
unfolding sum_below
sum_front xs zero h = refl
sum_front xs (suc n) h =
    ap (λ (k : ℕ). k + get_or xs n 0) (sum_front xs n (omega arith))
    ∙ sym (rw (take-suc xs n 0 h) (fold-append ◌+◌ 0 (take n xs) (get_or xs n 0 ∷ [])))

pub sum_of_list : (xs : List ℕ) → sum_of xs ≡ sum xs
unfolding sum_of
sum_of_list xs = sum_front xs (length xs) (omega arith) ∙ ap sum (take_all (length xs) xs (omega arith))
