-- `touched_right` meets its contract: along the walk every position is right.
use Rattle.std.proofs.Common.{refl, sym, ◌∙◌, rules, tests}
use Rattle.paper.specs.Refusals.{right_at}
use Rattle.rules.proofs.Right.{touched_walk}
use Rattle.image.specs.Views.{front_of}
use Rattle.stretches.proofs.Walks.{spot_first, walk_start}
use Rattle.stretches.proofs.Along.{all_in_walk}
use Rattle.stretches.proofs.touched_right.Goals as goal

pub returns : goal.returns
returns c =
    let a = c.args in
    let i = a.lent.now.image in
    let k = c.requires.within_bound.0 in
    all_in_walk c.all.new.self (right_at i.g (front_of i) a.lent.now.index.bytes.now a.r.0) c.all.ensures.ran i.readable.allowed refl (walk_start i.g a.spot k a.n)
    (spot_first i.g a.spot k) (search (rules, tests))
    ∙ sym (touched_walk _ _ _ _ _ _)
