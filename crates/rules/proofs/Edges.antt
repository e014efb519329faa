-- The edges of the ceilings, in what the calls answer and the tables and the index hold.
use Prim.Native.Nat.{ℕ, ◌≤◌, ◌<◌}
use mathlib.Core.Logic.{◌≢◌}
use mathlib.Core.Path.{◌≡◌, ◌∙◌, sym}
use mathlib.Core.List.{List}
use native.Mathlib.Omega.{arith}
use Rattle.paper.specs.declared.Geometry.{Geometry}
use Rattle.paper.specs.Geometry.{no_block, Allowed}
use Rattle.paper.specs.Image.{front, taken, counter}
use Rattle.paper.specs.Index.{start_of, index_of, slot_in}
use Rattle.paper.specs.Calls.{Call, «open», next_region}
use Rattle.paper.specs.Refusals.{refusal}
use Rattle.paper.proofs.Edges.{widest, blocks_beyond, entries_beyond, filler_no_block, no_region_fits}
use Rattle.rules.specs.Facts.{Header, Rules}
use Rattle.rules.proofs.Index.{start_bound, block_slot, slot_block}
use Rattle.rules.proofs.Lines.{refused_1, open_accepted}

-- ---- beyond a ceiling every call is refused with 1
module _ (g : Geometry) (image index : List ℕ) where
  pub refused_blocks : 65536 ≤ g.blocks → (c : Call) → refusal g image index c ≡ 1
  refused_blocks h = refused_1 g image index (blocks_beyond g h)

  pub refused_entries : 65537 ≤ g.entries → (c : Call) → refusal g image index c ≡ 1
  refused_entries h = refused_1 g image index (entries_beyond g h)

  -- ---- the last region that can be opened is 65,534
  pub opened_most : refusal g image index «open» ≡ 0 → next_region g (front g image) ≤ 65534
  opened_most e =
      let f = open_accepted g image index e in
      omega (arith, f.1, no_region_fits g f.0.geometry)

-- and the widest geometry gives it
pub opened_last : (t : List ℕ) → counter widest t ≡ 65534 → next_region widest t ≡ 65534
unfolding next_region
opened_last t e = rw e

-- ---- N, C and every start have room in two bytes, and a slot below N never holds the filler
module _ (g : Geometry) (A : Allowed g) (t : List ℕ) (H : Header g t) where
  pub taken_fits : taken g t < 65536
  taken_fits = omega (arith, H.taken_most, A.blocks_most)

  pub counter_fits : counter g t < 65536
  counter_fits = omega (arith, H.counter_most, no_region_fits g A)

  module _ (R : Rules g t) where
    pub start_fits : (r : ℕ) → r ≤ g.entries → start_of g t r < 65536
    start_fits r h = omega (arith, start_bound g A t R H.taken_most r h, taken_fits)

    pub slot_no_filler : (s : ℕ) → s < taken g t → slot_in g (index_of g t) s ≢ no_block
    slot_no_filler s l e =
        let b = slot_block g A t R H.taken_most s l in
        let at = rw b.2 at (block_slot g A t R H.taken_most b.0 b.1) in
        filler_no_block g A b.0 (omega (arith, b.1, H.taken_most)) (sym at ∙ e)
