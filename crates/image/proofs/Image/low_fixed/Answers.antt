-- Every region below 16 is open, and of edition 0.
use Rattle.std.proofs.Common.{refl, rules, tests}
use Rattle.laws.proofs.Ranges.{all_to}
use Rattle.image.proofs.Image.low_fixed.Goals as goal

pub returns : goal.returns
returns c = all_to _ _ c.all.ensures.ran refl (λ x b q h k. search (rules, tests))
