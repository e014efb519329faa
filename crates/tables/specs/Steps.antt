-- What a release asks of the tables, and the number of the region that an open gives.
use Rattle.std.specs.Prelude.{ℕ, ◌≤◌, true, ◌≡◌, List, Option, None, Some}
use Rattle.paper.specs.declared.Geometry.{Geometry}
use Rattle.paper.specs.declared.Region.{Region}
use Rattle.paper.specs.Geometry.{fixed_regions}
use Rattle.paper.specs.Image.{taken, is_open}
use Rattle.rules.specs.Facts.{Rules}

-- a book that may be released
pub record Releasable (g : Geometry) (t : List ℕ) (r : ℕ) : Type 0 where
  pub rules : Rules g t
  pub bound : taken g t ≤ g.blocks
  pub opened : is_open g t r ≡ true
  pub least : fixed_regions ≤ r

-- its number, and this one where there is none
abbrev pub region_or : ℕ → Option Region → ℕ
region_or none None = none
region_or none (Some r) = r.0
