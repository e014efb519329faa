-- The entries of `r` regions stand after those of the blocks.
use Prim.Native.Nat.{◌≤◌}
use mathlib.Core.Path.{◌≡◌}
use lib.ListN.{length}
use Rattle.laws.specs.Folds.{join_below}
use Rattle.laws.specs.Bytes.{splice}
use Rattle.paper.specs.Geometry.{size_at}
use Rattle.paper.specs.Image.{size_row}
use Rattle.paper.specs.Calls.{version_number}
use Rattle.paper.specs.Move.{moved_size}
use Rattle.laying.proofs.write_regions.Given as goal

abbrev pub invariant-loop-r : goal.invariant-loop-r
invariant-loop-r l =
    (l.r ≤ l.r-end) × (length l.image ≡ length l.initial.image)
    × (l.image ≡ splice (size_at l.g 0) (join_below l.r (size_row (version_number l.version) (moved_size l.pages.0))) l.initial.image)
