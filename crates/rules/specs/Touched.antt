-- The positions that n bytes from offset o on touch, and a position whose block stands in the index.
use Rattle.std.specs.Prelude.{ℕ, ◌+◌, ◌*◌, ◌/◌, ◌<◌, ◌≡◌, List}
use Rattle.paper.specs.declared.Geometry.{Geometry}
use Rattle.paper.specs.Geometry.{block_bytes}
use Rattle.paper.specs.Image.{taken, owner, place}
use Rattle.paper.specs.Index.{start_in, block_in}
use Rattle.paper.specs.Refusals.{touched}

module _ (g : Geometry) where
  -- they touch the positions from this one
  abbrev pub first_touched : ℕ → ℕ
  first_touched o = o / block_bytes g

  -- up to, and without, this one
  abbrev pub end_touched : ℕ → ℕ → ℕ
  end_touched o n = first_touched o + touched g o n

-- position p is touched: its block begins before the last byte asked, and ends after the first
pub record Touches (g : Geometry) (o n p : ℕ) : Type 0 where
  pub begins : p * block_bytes g < o + n
  pub ends : o < p * block_bytes g + block_bytes g

-- position p of region r has its block
pub record Right (g : Geometry) (t index : List ℕ) (r p : ℕ) : Type 0 where
  pub slot : start_in g index r + p < g.blocks
  pub below : block_in g index r p < taken g t
  pub owns : owner g t (block_in g index r p) ≡ r
  pub stands : place g t (block_in g index r p) ≡ p
