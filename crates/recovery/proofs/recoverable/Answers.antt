-- `recovery::recoverable` meets its contract.
use Rattle.rules.proofs.Lines.{recover_stop}
use Rattle.desk.proofs.Refusing.{number_passed}
use Rattle.recovery.proofs.recoverable.Goals as goal

pub returns-in_err-headed-clause-number : goal.returns-in_err-headed-clause-number
returns-in_err-headed-clause-number c = number_passed _ _ c.from_residual.ensures.1 c.in_err-headed.ensures.number (recover_stop _ _ _)
