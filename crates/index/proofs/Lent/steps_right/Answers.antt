-- `index::Lent::steps_right` meets its contract.
use Rattle.std.proofs.Common.{refl, rules, tests}
use Rattle.laws.proofs.Ranges.{all_to}
use Rattle.image.specs.Views.{front_of}
use Rattle.index.specs.Witnessed.{step_right}
use Rattle.index.proofs.Witness.{steps_all}
use Rattle.index.proofs.Lent.steps_right.Goals as goal

pub returns-then-start-eq0 : goal.returns-then-start-eq0
returns-then-start-eq0 c =
    let l = c.args.self.now in
    let all = all_to _ (step_right l.image.g (front_of l.image) l.index.bytes.now) c.all.ensures.ran refl (search (rules, tests)) in
    let whole = steps_all l.image.g (front_of l.image) l.index.bytes.now c.args.end.0 in
    search (rules, tests, all, whole)

pub returns-else-start-eq0 : goal.returns-else-start-eq0
returns-else-start-eq0 c =
    let l = c.args.self.now in
    let whole = steps_all l.image.g (front_of l.image) l.index.bytes.now c.args.end.0 in
    search (rules, tests, whole)
