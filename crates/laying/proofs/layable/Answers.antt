-- `laying::layable` meets its contract: a law for each return.
use mathlib.Core.Path.{sym}
use native.Mathlib.Omega.{arith}
use Rattle.rules.proofs.Lines.{lent_shown, lay_stop, lay_12, lay_0}
use Rattle.desk.proofs.Refusing.{number_passed}
use Rattle.laying.proofs.layable.Goals as goal

pub returns-in_err-lent : goal.returns-in_err-lent
returns-in_err-lent c = number_passed _ _ c.from_residual.ensures.1 c.in_err-lent.ensures (lay_stop _ _ _ _)

pub blank-requires : goal.blank-requires
blank-requires c =
    let R = (lent_shown _ _ _ (sym c.in_ok-lent.ensures)).0 in
    omega (arith, R.allowed.reserve, R.long)

pub returns-then-not-blank : goal.returns-then-not-blank
returns-then-not-blank c =
    let f = lent_shown _ _ _ (sym c.in_ok-lent.ensures) in
    sym (lay_12 _ _ _ f.0 f.1 _ (sym c.if-not-blank.ensures))

pub returns : goal.returns
returns c =
    let f = lent_shown _ _ _ (sym c.in_ok-lent.ensures) in
    sym (lay_0 _ _ _ f.0 f.1 _ (sym c.if-not-blank.ensures))
