-- Look: one stretch, from the offset on.
use Prim.Native.Nat.{ℕ, ◌+◌, ◌-◌, ◌*◌, ◌≤◌, ◌<◌, min}
use mathlib.Core.Path.{◌≡◌, sym, ◌∙◌}
use mathlib.Core.List.{List}
use native.Mathlib.Omega.{arith}
use native.Mathlib.Nat.{add-mul, one-mul}
use lib.ListN.{length, take, drop}
use Rattle.paper.specs.declared.Geometry.{Geometry}
use Rattle.paper.specs.declared.Spot.{Spot}
use Rattle.paper.specs.Geometry.{block_bytes, Allowed, data_at}
use Rattle.paper.specs.Image.{front, pages_of}
use Rattle.paper.specs.Index.{start_in, block_in}
use Rattle.paper.specs.Calls.{loaded, look_bytes}
use Rattle.rules.specs.Facts.{Reads}
use Rattle.rules.specs.Touched.{first_touched, end_touched}
use Rattle.rules.proofs.Touched.{touched_some}
use Rattle.rules.proofs.Right.{reads_right, reads_within}
use Rattle.keeping.proofs.Loaded.{loaded_within}
use Rattle.stretches.specs.declared.Stretch.{Stretch}
use Rattle.stretches.specs.Stretch.{in_block, IsSpot, IsStretch}
use Rattle.stretches.proofs.Walks.{spot_first}

-- the lesser of what is left of the book and of the block, as the paper counts it: the book has b bytes, the block those from q on
look_length : (b q a w : ℕ) → a < w → q + a ≤ b → min (b - (q + a)) (w - a) ≡ min b (q + w) - (q + a)
look_length b q a w l h = omega arith

look_lent : (a k : ℕ) → a + k - a ≡ k
look_lent a k = omega arith

module _ (g : Geometry) (image index : List ℕ) (r o : ℕ) (R : Reads g image index r o 1) (s : Spot) (I : IsSpot g o s) where
  abbrev p : ℕ
  p = s.position.0

  abbrev w : ℕ
  w = block_bytes g

  abbrev bytes : ℕ
  bytes = pages_of g (front g image) r * g.page

  A : Allowed g
  A = R.entered.geometry

  first : first_touched g o ≡ p
  first = rw I.offset at (spot_first g s I.inside)

  reached : p < end_touched g o 1
  reached = omega (arith, first, touched_some g o 1 (λ e. omega arith))

  pub look_slot : start_in g index r + s.position.0 < g.blocks
  look_slot = (reads_right g image index r o 1 R p (omega (arith, first)) reached).slot

  module _ (n : ℕ) (e : n ≡ pages_of g (front g image) r * g.page - o) (x : Stretch) (S : IsStretch g (block_in g index r s.position.0) s n x) where
    pub look_fits : x.at + x.bytes ≤ length image
    look_fits = rw (S.at, S.bytes) (omega (arith, I.inside, reads_within g image index r o 1 R p (omega (arith, first)) reached))

    pub look_shows : take (x.at + x.bytes - x.at) (drop x.at image) ≡ loaded g (block_in g index r) o (look_bytes g (front g image) r o) image
    look_shows =
        let a = s.within in
        let k = in_block g s n in
        let l : k ≡ look_bytes g (front g image) r o
        = rw (e, first, add-mul p 1 w, one-mul w, ← I.offset) (look_length bytes (p * w) a w I.inside (omega (arith, I.offset, R.within))) in
        let long : data_at g (block_in g index r p) + a + k ≤ length image = rw (S.at, S.bytes) at look_fits in
        rw (look_lent x.at x.bytes, S.at, S.bytes)
        (sym (loaded_within g A (block_in g index r) p a k image (omega (arith, I.inside)) long) ∙ rw (I.offset, l))
