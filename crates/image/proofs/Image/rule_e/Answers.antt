-- Every block from N on names no region.
use Rattle.std.proofs.Common.{refl, rules, tests}
use Rattle.laws.proofs.Ranges.{all_in_range}
use Rattle.paper.specs.Geometry.{no_region}
use Rattle.paper.specs.Image.{names}
use Rattle.paper.specs.WellFormed.{rule_e}
use Rattle.image.specs.Views.{front_of}
use Rattle.image.proofs.Image.rule_e.Goals as goal

pub returns : goal.returns
unfolding rule_e
returns c =
    let i = c.args.self.now in
    let none = names i.g (front_of i) (no_region i.g) 0 in
    rw (← c.taken-n.ensures) (all_in_range _ _ none c.all.ensures.ran refl (λ x b q l h k. search (rules, tests)))
