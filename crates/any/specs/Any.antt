-- A geometry from any four numbers, allowed or not.
use Rattle.std.specs.Prelude.{ℕ}
use Rattle.paper.specs.declared.Geometry.{Geometry}

-- page bytes S, pages in a block P, blocks B, region entries E
abbrev pub given : (s p b e : ℕ) → Geometry
given s p b e = record { page = s; pages = p; blocks = b; entries = e }
