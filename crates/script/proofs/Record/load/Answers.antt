-- `load` tells what a load tells: the sum of its bytes, or the refusal.
use Rattle.std.proofs.Common.{ℕ}
use Rattle.std.proofs.lemmas.List.{take-replicate}
use Rattle.std.proofs.lemmas.Result.{err_from_is_err_and}
use Rattle.paper.specs.Outcomes.{lent}
use Rattle.paper.specs.Script.{most_length}
use Rattle.script.proofs.Told.{load_refused, load_done}
use Rattle.script.proofs.Record.load.Goals as goal

pub returns-in_err-load : goal.returns-in_err-load
returns-in_err-load c =
    let r = c.args.self.now in
    let p = err_from_is_err_and c.from_residual.result c.from_residual.ensures.1 in
    rw (p.1, p.2)
    (rw (take-replicate {X = ℕ} r.length most_length 0 r.length_fits) at (load_refused _ _ _ _ _ _ (lent c.args.image.now c.args.index.now) c.load.ensures _ c.in_err-load.was))

pub returns : goal.returns
returns c =
    let r = c.args.self.now in
    rw (take-replicate {X = ℕ} r.length most_length 0 r.length_fits) at (load_done _ _ _ _ _ _ (lent c.args.image.now c.args.index.now) c.load.ensures _ c.in_ok-load.was c.sum.ensures)
