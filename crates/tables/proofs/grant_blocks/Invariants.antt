-- `tables::grant_blocks`: after j grants the image is j steps from the first, and as long.
use Prim.Native.Nat.{◌≤◌}
use mathlib.Core.Path.{◌≡◌}
use lib.ListN.{length}
use Rattle.laws.specs.Folds.{steps}
use Rattle.paper.specs.Image.{front}
use Rattle.rules.specs.Facts.{fronted}
use Rattle.tables.specs.Grant.{placed}
use Rattle.tables.proofs.grant_blocks.Given as goal

abbrev pub invariant-loop-j : goal.invariant-loop-j
invariant-loop-j l =
    let g = l.index.g in
    (l.j ≤ l.count)
    × (length l.image ≡ length l.initial.image)
    × (l.image ≡ fronted g (steps l.j (placed g l.index.bytes.now l.region.0 l.s) (front g l.initial.image)) l.initial.image)
