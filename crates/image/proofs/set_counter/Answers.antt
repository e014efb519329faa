-- `image::set_counter` meets its contract.
use Rattle.paper.specs.Geometry.{counter_at}
use Rattle.paper.specs.Image.{set_counter}
use mathlib.Core.Path.{◌∙◌}
use native.Mathlib.Omega.{arith}
use Rattle.rules.proofs.Fronts.{put_front}
use Rattle.image.proofs.set_counter.Goals as goal

pub returns : goal.returns
unfolding set_counter
returns c =
    let a = c.args in
    c.write.ensures ∙ put_front a.g a.image.now c.requires.readable 2 counter_at a.r.0 (omega arith)
