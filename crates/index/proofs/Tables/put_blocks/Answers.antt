-- The starts stand, the slots from N up are empty, and every block below `b` stands in its slot.
use Prim.Native.Nat.{◌<◌}
use mathlib.Core.Path.{◌∙◌}
use Rattle.image.specs.Views.{front_of}
use Rattle.paper.specs.Image.{taken}
use Rattle.rules.specs.Facts.{Indexed}
use Rattle.index.proofs.Filling.{starts_kept, spare_kept, block_more}
use native.Mathlib.Omega.{arith}
use Rattle.index.proofs.Tables.put_blocks.Goals as goal
use Rattle.index.proofs.Tables.put_blocks.Goals.{At-loop-b, In-loop-b}

-- the block to put is taken
inside : (c : In-loop-b) → let i = c.args.self.now.image in c.loop-b.b < taken i.g (front_of i)
inside c = omega (arith, c.taken-b-end.ensures)

-- the index is as long as it was
indexed : (c : At-loop-b) → Indexed c.args.self.now.image.g c.loop-b.index
indexed c = let p = c.requires in record { allowed = p.indexed.allowed; long = c.loop-b.invariant.1 ∙ p.indexed.long }

pub loop-b-preserved : goal.loop-b-preserved
loop-b-preserved c =
    let i = c.args.self.now.image in
    let p = c.requires in
    let t = front_of i in
    let l = inside (goal.at.loop-b-preserved c).In-loop-b in (
      omega arith,
      c.put_block.auto.index ∙ c.loop-b.invariant.1,
      rw c.put_block.ensures (starts_kept i.g t c.loop-b.index (indexed (goal.at.loop-b-preserved c).At-loop-b) p.rules c.args.self.now.tabled.bound c.loop-b.b l c.loop-b.invariant.2),
      rw c.put_block.ensures (spare_kept i.g t c.loop-b.index (indexed (goal.at.loop-b-preserved c).At-loop-b) p.rules c.args.self.now.tabled.bound c.loop-b.b l c.loop-b.invariant.3),
      rw c.put_block.ensures (block_more i.g t c.loop-b.index (indexed (goal.at.loop-b-preserved c).At-loop-b) p.rules c.args.self.now.tabled.bound c.loop-b.b l c.loop-b.invariant.4),
    )
