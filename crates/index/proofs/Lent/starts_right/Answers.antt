-- `index::Lent::starts_right` meets its contract.
use Rattle.std.proofs.Common.{rules, tests}
use Rattle.index.proofs.Witness.{starts_given}
use Rattle.index.proofs.Lent.starts_right.Goals as goal

pub returns-then-steps_right : goal.returns-then-steps_right
returns-then-steps_right c =
    let l = c.args.self.now in
    let whole = starts_given _ _ l.index.bytes.now c.requires.high in
    let ends = rw l.same at c.ends_right.ensures in
    search (rules, tests, whole, ends)

pub returns-else-steps_right : goal.returns-else-steps_right
returns-else-steps_right c =
    let whole = starts_given _ _ c.args.self.now.index.bytes.now c.requires.high in
    search (rules, tests, whole)
