-- The entries of `i` blocks stand after the header.
use Prim.Native.Nat.{◌≤◌}
use mathlib.Core.Path.{◌≡◌}
use lib.ListN.{length}
use Rattle.laws.specs.Folds.{join_below}
use Rattle.laws.specs.Bytes.{splice}
use Rattle.paper.specs.Geometry.{header_bytes}
use Rattle.paper.specs.Image.{entry_row}
use Rattle.paper.specs.Move.{moved_owner, moved_place}
use Rattle.laying.proofs.write_blocks.Given as goal

abbrev pub invariant-loop-i : goal.invariant-loop-i
invariant-loop-i l = (l.i ≤ l.i-end) × (length l.image ≡ length l.initial.image) × (l.image ≡ splice header_bytes (join_below l.i (entry_row (moved_owner l.g l.taken) (moved_place l.taken))) l.initial.image)
