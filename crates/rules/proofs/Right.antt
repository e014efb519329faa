-- A position whose block stands in the index, test by test; and what is known of the touched ones where a load or store is accepted.
use Prim.Native.Nat.{ℕ, ◌+◌, ◌-◌, ◌^◌, ◌≤◌, ◌<◌}
use mathlib.Core.Bool.{true, false, ◌&&◌}
use mathlib.Core.Path.{◌≡◌, sym, ◌∙◌}
use mathlib.Core.List.{List}
use native.Mathlib.Omega.{arith}
use borrow.Author.Tests.{eqb-true, eq-eqb, ne_eqb, ltb-true, lt-ltb, le-ltb}
use lib.Dec.{eqb, ltb}
use lib.ListN.{length}
use Rattle.laws.specs.Folds.{all_from}
use Rattle.laws.proofs.Tests.{and_parts, and_false_left, and_false_right}
use Rattle.laws.proofs.Folds.{all_from_lem}
use Rattle.paper.specs.declared.Geometry.{Geometry}
use Rattle.paper.specs.Geometry.{block_bytes, Allowed, data_at}
use Rattle.paper.specs.Image.{front, taken, owner, place, names, pages_of, need_of}
use Rattle.paper.specs.Index.{start_in, block_in}
use Rattle.paper.specs.Refusals.{right_at, touched, touched_right}
use Rattle.paper.proofs.Arithmetic.{block_within, book_bytes_bound}
use Rattle.rules.specs.Facts.{Indexed, Reads}
use Rattle.rules.specs.Touched.{first_touched, end_touched, Right}
use Rattle.rules.proofs.Facts.{need_open}
use Rattle.rules.proofs.Touched.{end_need}
use Rattle.rules.proofs.Usable.{usable_facts}

module _ (g : Geometry) (t index : List ℕ) (r p : ℕ) where
  abbrev b : ℕ
  b = block_in g index r p

  pub right_facts : right_at g t index r p ≡ true → Right g t index r p
  unfolding right_at
  right_facts e =
      let n = and_parts _ (names g t r p b) e in
      let s = and_parts (ltb (start_in g index r + p) g.blocks) (ltb b (taken g t)) n.0 in
      let m = and_parts (eqb (owner g t b) r) (eqb (place g t b) p) n.1 in
      record { slot = ltb-true _ _ s.0; below = ltb-true _ _ s.1; owns = eqb-true _ _ m.0; stands = eqb-true _ _ m.1 }

  -- as the code tests it
  pub right_past : g.blocks ≤ start_in g index r + p → right_at g t index r p ≡ false
  unfolding right_at
  right_past h = and_false_left _ (and_false_left _ (le-ltb _ _ h))

  pub right_spare : taken g t ≤ b → right_at g t index r p ≡ false
  unfolding right_at
  right_spare h = and_false_left (names g t r p b) (and_false_right (ltb (start_in g index r + p) g.blocks) (le-ltb _ _ h))

  pub right_other : (owner g t b ≡ r → ⊥) → right_at g t index r p ≡ false
  unfolding right_at
  right_other h =
      and_false_right (ltb (start_in g index r + p) g.blocks && ltb b (taken g t)) (and_false_left (eqb (place g t b) p) (ne_eqb _ _ h))

  pub right_place : start_in g index r + p < g.blocks → b < taken g t → owner g t b ≡ r → eqb (place g t b) p ≡ right_at g t index r p
  unfolding right_at
  right_place h l o = rw (lt-ltb _ _ h, lt-ltb _ _ l, eq-eqb _ _ o)

-- the touched positions, one after the other
pub touched_walk : (g : Geometry) (t index : List ℕ) (r o n : ℕ)
    → touched_right g t index r o n ≡ all_from (first_touched g o) (end_touched g o n) (right_at g t index r)
unfolding touched_right
touched_walk g t index r o n = let e : end_touched g o n - first_touched g o ≡ touched g o n = omega arith in rw e

-- ---- an accepted load or store
module _ (g : Geometry) (image index : List ℕ) (r o n : ℕ) (R : Reads g image index r o n) where
  pub reads_region : r < g.entries
  reads_region = omega (arith, (usable_facts g (front g image) r R.usable).1)

  -- what the readers of the index and the count of the positions ask
  pub reads_index : Indexed g index × (r ≤ g.entries)
  reads_index = (record { allowed = R.entered.geometry; long = R.entered.indexed }, omega (arith, reads_region))

  pub reads_bytes : Allowed g × (o + n < 2 ^ 40)
  reads_bytes =
      (R.entered.geometry, omega (arith, R.within, book_bytes_bound g (pages_of g (front g image) r) R.entered.geometry R.fits))

  -- the touched positions end within the book's need
  pub reads_need : end_touched g o n ≤ need_of g (front g image) r
  reads_need =
      rw (need_open g (front g image) r (usable_facts g (front g image) r R.usable).2)
      (end_need g R.entered.geometry o n (pages_of g (front g image) r) R.within)

  module _ (p : ℕ) (lo : first_touched g o ≤ p) (hi : p < end_touched g o n) where
    pub reads_right : Right g (front g image) index r p
    reads_right =
        right_facts g (front g image) index r p
        (all_from_lem (first_touched g o) (end_touched g o n) (right_at g (front g image) index r) (sym (touched_walk g (front g image) index r o n) ∙ R.right) p lo hi)

    -- its block lies in the image
    pub reads_within : data_at g (block_in g index r p) + block_bytes g ≤ length image
    reads_within =
        let b = reads_right.below in
        block_within g R.entered.geometry (length image) (block_in g index r p) (omega (arith, R.entered.tail))
