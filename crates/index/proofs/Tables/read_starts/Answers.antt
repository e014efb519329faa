-- The starts of the regions from `first` up to `r` stand, and the sum is the next.
use Prim.Native.Nat.{◌+◌, ◌<◌}
use lib.ListN.{length-set}
use Rattle.laws.proofs.Folds.{sum_more}
use Rattle.image.specs.Views.{front_of}
use Rattle.paper.specs.Image.{need_of}
use Rattle.index.proofs.Slots.{need_inside}
use Rattle.index.proofs.Repeats.{starts_more}
use native.Mathlib.Omega.{arith}
use Rattle.index.proofs.Tables.read_starts.Goals as goal
use Rattle.index.proofs.Tables.read_starts.Goals.{In-loop-r}

-- the sum and the region's need fit 2 bytes
fits : (c : In-loop-r) → let i = c.args.self.now.image in c.loop-r.sum + need_of i.g (front_of i) c.loop-r.r < 65536
fits c =
    let T = c.args.self.now.tabled in
    let inside = need_inside _ _ T.slotted c.loop-r.r (omega arith) in
    omega (arith, inside, T.bound, T.readable.allowed.blocks_most)

pub overflow_cast-starts : goal.overflow_cast-starts
overflow_cast-starts c = omega (arith, fits (goal.at.overflow_cast-starts c).In-loop-r)

pub overflow_add-sum : goal.overflow_add-sum
overflow_add-sum c = omega (arith, fits (goal.at.overflow_add-sum c).In-loop-r)

pub loop-r-preserved : goal.loop-r-preserved
loop-r-preserved c =
    let i = c.args.self.now.image in
    let x = c.loop-r in
    let t = front_of i in (
      omega arith,
      omega arith,
      simp length-set x.invariant.2,
      omega (arith, sum_more x.r (need_of i.g t)),
      starts_more i.g t c.args.first.0 x.r x.sum x.starts x.invariant.0 (omega arith) x.invariant.3 x.invariant.4,
    )
