-- `image::Image::taken` meets its contract.
use mathlib.Core.Path.{◌∙◌}
use Rattle.rules.proofs.Fronts.{taken_read}
use Rattle.image.proofs.Image.taken.Goals as goal

pub returns : goal.returns
returns c = c.read.ensures ∙ taken_read c.args.self.now.g c.args.self.now.bytes.now
