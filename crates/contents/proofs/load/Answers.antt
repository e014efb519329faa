-- `contents::load` meets its contract: refused, or done.
use Rattle.std.proofs.Common.{sym, ◌∙◌}
use Rattle.paper.specs.Outcomes.{lent}
use Rattle.rules.proofs.Lines.{load_number, load_done}
use Rattle.desk.proofs.Refusing.{outcome_left}
use Rattle.contents.proofs.Reading.{spot_reads, read_image, read_index}
use Rattle.contents.proofs.load.Goals as goal

pub returns-in_err-spot : goal.returns-in_err-spot
returns-in_err-spot c = outcome_left _ _ _ _ _ _ c.from_residual.ensures.1 (load_number _ _ _ _ _ _ _ ∙ sym c.in_err-spot.ensures.number)

pub invariant_of-lent : goal.invariant_of-lent
invariant_of-lent c = record { readable = read_image _ _ _ _ _ _ _ c.in_ok-spot.ensures.number }

pub invariant_of-lent-2 : goal.invariant_of-lent-2
invariant_of-lent-2 c = record { indexed = read_index _ _ _ _ _ _ _ c.in_ok-spot.ensures.number }

pub copy_out-requires : goal.copy_out-requires
copy_out-requires c = spot_reads _ c.in_ok-spot.ensures.number c.in_ok-spot.ensures.spot

pub returns : goal.returns
returns c =
    let a = c.args in
    let k = load_number _ _ _ _ _ _ _ ∙ sym c.in_ok-spot.ensures.number in
    rw (c.copy_out.ensures, c.in_ok-spot.ensures.spot.offset)
    (sym (load_done a.g (lent a.image.now a.index.now) a.book.region.0 a.book.edition.0 a.offset.0 a.buffer.now k))
