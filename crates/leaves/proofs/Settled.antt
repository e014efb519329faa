-- Any two outcomes that `leaf_copy`'s promise allows are equal.
use Prim.Native.Nat.{ℕ}
use mathlib.Core.Path.{◌≡◌, sym, ◌∙◌}
use mathlib.Core.List.{List}
use Rattle.leaves.specs.Copy.{answered, left}

pub settled : (from to : List ℕ) (r r' : ℕ) (x x' : List ℕ) → (r ≡ answered from to) × (x ≡ left from to) → (r' ≡ answered from to) × (x' ≡ left from to)
    → (r ≡ r') × (x ≡ x')
settled from to r r' x x' p q = (p.0 ∙ sym q.0, p.1 ∙ sym q.1)
