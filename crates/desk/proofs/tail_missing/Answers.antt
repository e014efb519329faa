-- `desk::tail_missing` meets its contract.
use Rattle.paper.proofs.Arithmetic.{tail_short}
use Rattle.desk.proofs.tail_missing.Goals as goal

pub returns : goal.returns
returns c =
    let h = c.args.headed.now in
    let i = h.image in
    rw (c.data_at.ensures, c.taken.ensures) (tail_short i.g i.readable.allowed _ _ i.readable.long h.header.taken_most)
