-- `Geometry::need` meets its contract: whole blocks, or one more.
use Rattle.std.proofs.Common.{◌∙◌, sym, arith}
use Rattle.paper.proofs.Arithmetic.{need_exact, need_more}
use Rattle.paper.proofs.Geometry.need.Goals as goal

pub returns-then-d-eq0 : goal.returns-then-d-eq0
returns-then-d-eq0 c =
    let d = c.parted-d.ensures in
    d.0 ∙ need_exact _ (omega arith) _ (sym d.1 ∙ c.if-d-eq0.true)

pub returns-else-d-eq0 : goal.returns-else-d-eq0
returns-else-d-eq0 c =
    let d = c.parted-d.ensures in
    rw d.0 (need_more _ (omega arith) _ (λ e. c.if-d-eq0.false (d.1 ∙ e)))
