-- The largest of the bytes is zero exactly where each of them is.
use Prim.Native.Nat.{ℕ, zero, suc, max}
use mathlib.Core.Bool.{Bool, ◌&&◌}
use mathlib.Core.List.{List, [], ◌∷◌}
use mathlib.Core.Path.{◌≡◌, sym, ap, ◌∙◌}
use native.Mathlib.Decide.{ℕ_discrete}
use native.Mathlib.Omega.{arith}
use borrow.Author.Rules.{rules}
use borrow.Author.Tests.{ne_eqb}
use lib.Dec.{eqb}
use lib.ListN.{get_or, length}
use Rattle.std.specs.List.{fold}
use Rattle.std.proofs.Math.Bool.{and_assoc, and-true}
use Rattle.std.proofs.lemmas.Iterator.{YieldsList-from_slice}
use Rattle.std.proofs.lemmas.Iterator.Consumers.{fold_from_yields_List}
use Rattle.laws.specs.Folds.{all_below}
use Rattle.numbers.proofs.all_zero.Goals as goal

-- the larger of two is zero where both are
max-zero : (a b : ℕ) → eqb (max a b) 0 ≡ (eqb a 0 && eqb b 0)
max-zero a b = go (ℕ_discrete a 0) (ℕ_discrete b 0)
  where
    go : Dec (a ≡ 0) → Dec (b ≡ 0) → eqb (max a b) 0 ≡ (eqb a 0 && eqb b 0)
    go (yes d) (yes e) = rw (d, e)
    go (yes d) (no n) = rw (d, ne_eqb b 0 n) (ne_eqb (max 0 b) 0 (λ z. omega arith))
    go (no n) _ = rw (ne_eqb a 0 n) (ne_eqb (max a b) 0 (λ z. omega arith))

-- the first apart from the others
all_first : (n : ℕ) (p : ℕ → Bool) → all_below (suc n) p ≡ (p 0 && all_below n (λ i. p (suc i)))
unfolding all_below
all_first zero p = sym (and-true (p 0))
all_first (suc n) p = rw (all_first n p) (and_assoc (p 0) (all_below n (λ i. p (suc i))) (p (suc n)))

largest-zero : (a : ℕ) (xs : List ℕ) → eqb (fold max a xs) 0 ≡ (eqb a 0 && all_below (length xs) (λ i. eqb (get_or xs i 0) 0))
unfolding all_below
largest-zero a [] = sym (and-true (eqb a 0))
largest-zero a (x ∷ xs) =
    rw (all_first (length xs) (λ i. eqb (get_or (x ∷ xs) i 0) 0), largest-zero (max a x) xs, max-zero a x) (and_assoc (eqb a 0) (eqb x 0) _)

pub returns : goal.returns
returns c =
    let s = c.args.part.now in
    let e = fold_from_yields_List _ max 0 c.fold.result c.fold.ensures.ran (YieldsList-from_slice s cc) (λ a x b q k. search rules) in
    ap (λ (n : ℕ). eqb n 0) e ∙ largest-zero 0 s
