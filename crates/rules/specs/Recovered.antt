-- What recovery leaves as the index, said without the index's own definition.
use Rattle.std.specs.Prelude.{ℕ, ◌+◌, ◌≤◌, ◌<◌, ◌≡◌, List}
use Rattle.paper.specs.declared.Geometry.{Geometry}
use Rattle.paper.specs.Geometry.{no_block}
use Rattle.paper.specs.Image.{taken, owner, place, need_of}
use Rattle.paper.specs.Index.{start_in, slot_in, block_in}

pub record Recovered (g : Geometry) (t index : List ℕ) : Type 0 where
  -- the starts add up to N
  pub start : start_in g index 0 ≡ 0
  pub next : (r : ℕ) → r < g.entries → start_in g index (r + 1) ≡ start_in g index r + need_of g t r
  pub last : start_in g index g.entries ≡ taken g t
  -- each open book gets its blocks in order of position
  pub below : (r p : ℕ) → p < need_of g t r → block_in g index r p < taken g t
  pub owned : (r p : ℕ) → p < need_of g t r → owner g t (block_in g index r p) ≡ r
  pub placed : (r p : ℕ) → p < need_of g t r → place g t (block_in g index r p) ≡ p
  -- each block below N is in the index, and none twice
  pub every : (b : ℕ) → b < taken g t → block_in g index (owner g t b) (place g t b) ≡ b
  pub once : (s u : ℕ) → s < taken g t → u < taken g t → slot_in g index s ≡ slot_in g index u → s ≡ u
  -- unused slots
  pub spare : (s : ℕ) → taken g t ≤ s → s < g.blocks → slot_in g index s ≡ no_block
