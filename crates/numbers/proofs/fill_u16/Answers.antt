-- `i` numbers stand from `at` on.
use mathlib.Core.Path.{sym, ap, ◌∙◌}
use Rattle.laws.specs.Bytes.{le, put}
use Rattle.laws.proofs.Lists.{join_none, splice_nil, splice_row}
use Rattle.laws.proofs.Bytes.{length-le}
use native.Mathlib.Omega.{arith}
use Rattle.numbers.proofs.fill_u16.Goals as goal

pub loop-i-init : goal.loop-i-init
loop-i-init c = rw join_none (sym (splice_nil c.args.at c.args.s.now))

pub loop-i-preserved : goal.loop-i-preserved
loop-i-preserved c =
    let a = c.args in
    let x = c.loop-i in
    c.write.ensures ∙ ap (put 2 _ a.v) x.invariant ∙ splice_row 2 a.at x.i (λ _. le 2 a.v) a.s.now (λ k. length-le 2 a.v) (omega arith)
