-- `tables::reclaim_blocks`: after b blocks the image is b steps from the first, and as long.
use Prim.Native.Nat.{◌≤◌}
use mathlib.Core.Path.{◌≡◌}
use lib.ListN.{length}
use Rattle.laws.specs.Folds.{steps}
use Rattle.paper.specs.Image.{front}
use Rattle.paper.specs.Calls.{reclaiming}
use Rattle.rules.specs.Facts.{fronted}
use Rattle.tables.proofs.reclaim_blocks.Given as goal

abbrev pub invariant-loop-b : goal.invariant-loop-b
invariant-loop-b l =
    (l.b ≤ l.b-end)
    × (length l.image ≡ length l.initial.image)
    × (l.image
    ≡ fronted l.g (steps l.b (reclaiming l.g (front l.g l.initial.image) l.region.0 l.spare) (front l.g l.initial.image)) l.initial.image)
