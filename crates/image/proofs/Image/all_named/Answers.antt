-- Every block below N names a position of an open book.
use Rattle.std.proofs.Common.{refl, rules, tests}
use Rattle.laws.proofs.Ranges.{all_to}
use Rattle.paper.specs.WellFormed.{named}
use Rattle.image.specs.Views.{front_of}
use Rattle.image.proofs.Image.all_named.Goals as goal

pub returns : goal.returns
returns c =
    let i = c.args.self.now in
    rw (← c.taken.ensures) (all_to _ (named i.g (front_of i)) c.all.ensures.ran refl (λ x b q h k. search (rules, tests)))
