-- `s` has `i` of the bytes in their place, and is else as it was.
use mathlib.Core.Path.{sym}
use Rattle.laws.proofs.Lists.{splice_nil, copy_turn}
use native.Mathlib.Omega.{arith}
use Rattle.numbers.proofs.copy_within.Goals as goal

pub loop-i-init : goal.loop-i-init
loop-i-init c = sym (splice_nil c.args.to c.args.s.now)

pub loop-i-preserved : goal.loop-i-preserved
loop-i-preserved c =
    let a = c.args in
    rw c.loop-i.invariant (copy_turn a.from a.to c.loop-i.i a.s.now (omega arith) (omega arith))
