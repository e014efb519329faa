-- `recovery::recover` meets its contract: refused, or done.
use Rattle.std.proofs.Common.{sym}
use Rattle.rules.proofs.Lines.{recover_accepted}
use Rattle.desk.proofs.Refusing.{outcome_left}
use Rattle.recovery.proofs.recover.Goals as goal

pub returns-in_err-image : goal.returns-in_err-image
returns-in_err-image c = outcome_left _ _ _ _ _ _ c.from_residual.ensures.1 (sym c.in_err-image.ensures.number)

pub write_index-requires-clause-indexed : goal.write_index-requires-clause-indexed
write_index-requires-clause-indexed c =
    let I = c.in_ok-image.ensures.image in
    let E = (recover_accepted _ _ _ (sym c.in_ok-image.ensures.number)).0 in
    rw I.geometry (record { allowed = E.geometry; long = E.indexed })

pub write_index-requires-clause-image_bound : goal.write_index-requires-clause-image_bound
write_index-requires-clause-image_bound c =
    let I = c.in_ok-image.ensures.image in
    rw (I.geometry, I.lent) (recover_accepted _ _ _ (sym c.in_ok-image.ensures.number)).0.header.taken_most

pub write_index-requires-clause-rules : goal.write_index-requires-clause-rules
write_index-requires-clause-rules c =
    let I = c.in_ok-image.ensures.image in
    rw (I.geometry, I.lent) (recover_accepted _ _ _ (sym c.in_ok-image.ensures.number)).1
