-- `image::Image::counter` meets its contract.
use mathlib.Core.Path.{◌∙◌}
use Rattle.rules.proofs.Fronts.{counter_read}
use Rattle.image.proofs.Image.counter.Goals as goal

pub returns : goal.returns
returns c = c.read.ensures ∙ counter_read c.args.self.now.g c.args.self.now.bytes.now
