-- Rule a's sentences by the region: each half of the table is asked both of them at once; the number in all eight bytes of an entry; and what is read of one.
use Rattle.std.specs.Prelude.{ℕ, ◌+◌, ◌*◌, ◌^◌, Bool, not, ◌&&◌, cond, List, Option, None, Some, eqb}
use Rattle.paper.specs.declared.Geometry.{Geometry}
use Rattle.paper.specs.declared.Pages.{Pages}
use Rattle.paper.specs.Geometry.{version3, size_bytes, half_bytes, all_ones}
use Rattle.paper.specs.Image.{Size, holds, not_open, version_of, edition_of, is_open}
use Rattle.paper.specs.WellFormed.{unreleased}

-- what an entry holds: the pages, or "not open"
abbrev pub sized : Option Pages → Size
sized None = not_open
sized (Some n) = holds n.0

module _ (g : Geometry) (t : List ℕ) where
  -- regions 0 to 15: always open, so never released
  abbrev pub fixed : ℕ → Bool
  fixed r = is_open g t r && unreleased g t r

  -- those from C on: never given out
  abbrev pub fresh : ℕ → Bool
  fresh r = not (is_open g t r) && unreleased g t r

  -- the entry that a release leaves
  abbrev pub released_entry : ℕ → ℕ
  released_entry r = cond (eqb (version_of g t) version3) ((edition_of g t r + 1) * 256 ^ half_bytes + all_ones half_bytes) (all_ones size_bytes)
