-- `laying::lay` meets its contract.
use mathlib.Core.Path.{sym}
use Rattle.paper.specs.Outcomes.{lent}
use Rattle.paper.proofs.Arithmetic.{need_zero}
use Rattle.rules.proofs.Lines.{lay_accepted, lay_done}
use Rattle.rules.proofs.Moved.{moved_none}
use native.Mathlib.Omega.{arith}
use Rattle.desk.proofs.Refusing.{outcome_left}
use Rattle.laying.proofs.lay.Goals as goal

pub returns-in_err-layable : goal.returns-in_err-layable
returns-in_err-layable c = outcome_left _ _ _ _ _ _ c.from_residual.ensures.1 (sym c.in_err-layable.ensures)

pub write_reserve-requires : goal.write_reserve-requires
write_reserve-requires c =
    let f = lay_accepted _ _ _ _ (sym c.in_ok-layable.ensures) in
    (record { allowed = f.0; long = f.2 }, omega (arith, need_zero c.args.g f.0.pages_least))

pub write_empty_index-requires : goal.write_empty_index-requires
write_empty_index-requires c =
    let f = lay_accepted _ _ _ _ (sym c.in_ok-layable.ensures) in
    record { allowed = f.0; long = f.1 }

pub returns : goal.returns
returns c =
    let a = c.args in
    let k = sym c.in_ok-layable.ensures in
    cc (lay_done a.g (lent a.image.now a.index.now) a.version k, moved_none a.g (lay_accepted _ _ _ _ k).0 a.version)
