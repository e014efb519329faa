-- `image::set_taken` meets its contract.
use Rattle.paper.specs.Geometry.{taken_at}
use Rattle.paper.specs.Image.{set_taken}
use mathlib.Core.Path.{◌∙◌}
use native.Mathlib.Omega.{arith}
use Rattle.rules.proofs.Fronts.{put_front}
use Rattle.image.proofs.set_taken.Goals as goal

pub returns : goal.returns
unfolding set_taken
returns c =
    let a = c.args in
    c.write.ensures ∙ put_front a.g a.image.now c.requires 2 taken_at a.n (omega arith)
