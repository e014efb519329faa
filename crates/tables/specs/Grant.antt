-- Which blocks a growth takes, as the tables and the lent index tell before it; what each grant writes, and what it asks.
use Rattle.std.specs.Prelude.{ℕ, ◌+◌, ◌-◌, ◌*◌, ◌≤◌, ◌<◌, cond, List, ltb}
use Rattle.paper.specs.declared.Geometry.{Geometry}
use Rattle.paper.specs.Geometry.{reclaimed}
use Rattle.paper.specs.Image.{taken, need_of, set_taken, set_entry, set_pages}
use Rattle.paper.specs.Index.{start_in, block_in}
use Rattle.tables.specs.declared.Stock.{Stock}

-- what a growth of region r starts from
abbrev pub stock_of : Geometry → List ℕ → ℕ → Stock
stock_of g t r = record { held = need_of g t r; spare = need_of g t reclaimed; taken = taken g t }

-- the block that the grant after j others takes: region 1's, the highest position first, then from N up
abbrev pub next_block : Geometry → List ℕ → Stock → ℕ → ℕ
next_block g index s j = cond (ltb j s.spare) (block_in g index reclaimed (s.spare - 1 - j)) (s.taken + (j - s.spare))

-- the block at position p of region r when it has grown
abbrev pub block_after : Geometry → List ℕ → ℕ → Stock → ℕ → ℕ
block_after g index r s p = cond (ltb p s.held) (block_in g index r p) (next_block g index s (p - s.held))

-- block b leaves region 1, or is counted in N
abbrev pub drawn : Geometry → Stock → ℕ → ℕ → List ℕ → List ℕ
drawn g s j b t = cond (ltb j s.spare) (set_pages g reclaimed ((s.spare - 1 - j) * g.pages) t) (set_taken g (b + 1) t)

-- and stands at region r's next position. The book's page count stays
abbrev pub placed : Geometry → List ℕ → ℕ → Stock → ℕ → List ℕ → List ℕ
placed g index r s j t = set_entry g (next_block g index s j) r (s.held + j) (drawn g s j (next_block g index s j) t)

-- that block can be found
pub record Found (g : Geometry) (index : List ℕ) (s : Stock) (j : ℕ) : Type 0 where
  pub spare : j < s.spare → start_in g index reclaimed + (s.spare - 1 - j) < g.blocks
  pub new : s.spare ≤ j → s.taken + (j - s.spare) < g.blocks

-- and so can the one at position p
pub record FoundAt (g : Geometry) (index : List ℕ) (r : ℕ) (s : Stock) (p : ℕ) : Type 0 where
  pub inside : r < g.entries
  pub own : p < s.held → start_in g index r + p < g.blocks
  pub later : s.held ≤ p → Found g index s (p - s.held)

-- the grant after j others is possible
pub record Grantable (g : Geometry) (index : List ℕ) (r : ℕ) (s : Stock) (j : ℕ) : Type 0 where
  pub inside : r < g.entries
  pub next : s.held + j < g.blocks
  pub fits : s.spare ≤ g.blocks
  pub block : next_block g index s j < g.blocks
  pub found : Found g index s j
