-- `moving::movable` meets its contract: a law for each return.
use mathlib.Core.Path.{sym}
use Rattle.rules.proofs.Lines.{lent_shown, move_stop, move_13, move_0}
use native.Mathlib.Omega.{arith}
use Rattle.desk.proofs.Refusing.{number_passed}
use Rattle.moving.proofs.movable.Goals as goal

pub returns-in_err-lent : goal.returns-in_err-lent
returns-in_err-lent c = number_passed _ _ c.from_residual.ensures.1 c.in_err-lent.ensures (move_stop _ _ _ _)

pub capacity-room-requires : goal.capacity-room-requires
capacity-room-requires c = (lent_shown _ _ _ (sym c.in_ok-lent.ensures)).0.allowed

pub need-requires : goal.need-requires
need-requires c = (lent_shown _ _ _ (sym c.in_ok-lent.ensures)).0.allowed

pub returns-then-room-need : goal.returns-then-room-need
returns-then-room-need c =
    let f = lent_shown _ _ _ (sym c.in_ok-lent.ensures) in
    sym (move_13 _ _ _ _ f.0 f.1 (omega (arith, c.need.ensures, c.capacity-room.ensures, c.if-room-need.true)))

pub returns : goal.returns
returns c =
    let f = lent_shown _ _ _ (sym c.in_ok-lent.ensures) in
    sym (move_0 _ _ _ _ f.0 f.1 (omega (arith, c.need.ensures, c.capacity-room.ensures, c.if-room-need.false)))
