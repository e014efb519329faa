-- No region from C on was ever given out.
use Rattle.std.proofs.Common.{refl, rules, tests}
use Rattle.laws.proofs.Ranges.{all_in_range}
use Rattle.image.specs.Entries.{fresh}
use Rattle.image.specs.Views.{front_of}
use Rattle.image.proofs.Image.high_fresh.Goals as goal

pub returns : goal.returns
returns c =
    let i = c.args.self.now in
    rw (← c.counter-c.ensures) (all_in_range _ _ (fresh i.g (front_of i)) c.all.ensures.ran refl (λ x b q l h k. search (rules, tests)))
