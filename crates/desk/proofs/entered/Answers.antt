-- `desk::entered` meets its contract.
use Rattle.rules.proofs.Lines.{entered_stop}
use Rattle.desk.proofs.Refusing.{number_passed}
use Rattle.desk.proofs.entered.Goals as goal

pub returns-in_err-headed-clause-number : goal.returns-in_err-headed-clause-number
returns-in_err-headed-clause-number c = number_passed _ _ c.from_residual.ensures.1 c.in_err-headed.ensures.number (entered_stop _ _ _)
