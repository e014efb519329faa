-- `contents::store` meets its contract: refused, or done.
use Rattle.std.proofs.Common.{sym, ◌∙◌}
use Rattle.paper.specs.Outcomes.{lent}
use Rattle.rules.proofs.Lines.{store_number, store_done}
use Rattle.desk.proofs.Refusing.{outcome_left}
use Rattle.contents.proofs.Reading.{spot_reads, read_index}
use Rattle.contents.proofs.store.Goals as goal

pub returns-in_err-spot : goal.returns-in_err-spot
returns-in_err-spot c = outcome_left _ _ _ _ _ _ c.from_residual.ensures.1 (store_number _ _ _ _ _ _ _ ∙ sym c.in_err-spot.ensures.number)

pub invariant_of-index : goal.invariant_of-index
invariant_of-index c = record { indexed = read_index _ _ _ _ _ _ _ c.in_ok-spot.ensures.number }

pub copy_in-requires : goal.copy_in-requires
copy_in-requires c = spot_reads _ c.in_ok-spot.ensures.number c.in_ok-spot.ensures.spot

pub returns : goal.returns
returns c =
    let a = c.args in
    let k = store_number _ _ _ _ _ _ _ ∙ sym c.in_ok-spot.ensures.number in
    rw (c.copy_in.ensures, c.in_ok-spot.ensures.spot.offset)
    (sym (store_done a.g (lent a.image.now a.index.now) a.book.region.0 a.book.edition.0 a.offset.0 a.bytes.now k))
