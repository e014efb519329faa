-- A region that calls may name: 0 or from 16 to E-2, and open.
use Prim.Native.Nat.{ℕ, ◌≤◌, ◌<◌}
use mathlib.Core.Bool.{true, false, ◌&&◌}
use mathlib.Core.Logic.{◌≢◌, ◌⊎◌, ⊎_elim}
use mathlib.Core.Path.{◌≡◌}
use mathlib.Core.List.{List}
use native.Mathlib.Omega.{arith}
use native.Mathlib.Decide.{ℕ_discrete, dec_lt}
use borrow.Author.Tests.{eq-eqb, ne_eqb, ltb-true, lt-ltb, le-ltb, leb-true, le-leb, lt-leb}
use lib.Dec.{ltb}
use Rattle.laws.proofs.Tests.{clash, and_parts, and_true, and_false_left, and_false_right}
use Rattle.paper.specs.declared.Geometry.{Geometry}
use Rattle.paper.specs.Geometry.{fixed_regions, no_region}
use Rattle.paper.specs.Image.{is_open}
use Rattle.paper.specs.Refusals.{callable, usable}
use Rattle.rules.specs.Facts.{Rules, Header}
use Rattle.rules.proofs.Facts.{open_below}

pub callable_facts : (r : ℕ) → callable r ≡ true → r ≢ 0 → fixed_regions ≤ r
callable_facts r c ne = leb-true _ _ (rw (ne_eqb r 0 ne) at c)

-- it is none of those kept back, nor region 1
pub callable_apart : (r : ℕ) → callable r ≡ true → (q : ℕ) → 1 ≤ q → q < fixed_regions → q ≢ r
callable_apart r c q lo hi = go (ℕ_discrete r 0)
  where
    go : Dec (r ≡ 0) → q ≢ r
    go (yes e) = omega arith
    go (no ne) = let h = callable_facts r c ne in omega arith

module _ (g : Geometry) (t : List ℕ) (r : ℕ) where
  pub usable_facts : usable g t r ≡ true → (callable r ≡ true) × (r < no_region g) × (is_open g t r ≡ true)
  unfolding usable
  usable_facts e =
      let p = and_parts _ (is_open g t r) e in
      let q = and_parts (callable r) (ltb r (no_region g)) p.0 in
      (q.0, ltb-true _ _ q.1, p.1)

  -- region E-1 is never open, so that an open region of the caller's is usable
  pub open_usable : Rules g t → Header g t → callable r ≡ true → is_open g t r ≡ true → usable g t r ≡ true
  unfolding usable
  open_usable R H c o = and_true (and_true c (lt-ltb r (no_region g) (go (dec_lt r (no_region g))))) o
    where
      go : Dec (r < no_region g) → r < no_region g
      go (yes h) = h
      go (no h) = clash (is_open g t r) o (R.high r (omega (arith, H.counter_most)) (open_below g t r o))

  -- ---- and one that they may not
  pub closed_unusable : is_open g t r ≡ false → usable g t r ≡ false
  unfolding usable
  closed_unusable e = and_false_right (callable r && ltb r (no_region g)) e

  pub kept_unusable : callable r ≡ false → usable g t r ≡ false
  unfolding usable
  kept_unusable e = and_false_left (is_open g t r) (and_false_left (ltb r (no_region g)) e)

  pub beyond_unusable : no_region g ≤ r → usable g t r ≡ false
  unfolding usable
  beyond_unusable h = and_false_left (is_open g t r) (and_false_right (callable r) (le-ltb r (no_region g) h))

-- the test, as the code asks it
pub kept_back : (r : ℕ) → 0 < r → r < fixed_regions → callable r ≡ false
kept_back r h l = simp (ne_eqb r 0 (λ e. omega arith), lt-leb fixed_regions r l)

pub usable_within : (g : Geometry) (t : List ℕ) (r : ℕ) → (r ≤ 0) ⊎ (fixed_regions ≤ r) → r < no_region g → usable g t r ≡ is_open g t r
unfolding usable
usable_within g t r d h =
    ⊎_elim
    (λ (l : r ≤ 0). simp (eq-eqb r 0 (omega arith), lt-ltb r (no_region g) h))
    (λ (l : fixed_regions ≤ r). simp (ne_eqb r 0 (λ e. omega arith), le-leb fixed_regions r l, lt-ltb r (no_region g) h))
    d
