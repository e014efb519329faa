-- `image::Image::owner` meets its contract.
use mathlib.Core.Path.{◌∙◌, ap}
use Rattle.laws.specs.Bytes.{num}
use Rattle.rules.proofs.Fronts.{owner_read}
use Rattle.image.proofs.Image.owner.Goals as goal

pub returns : goal.returns
returns c =
    let i = c.args.self.now in
    c.read.ensures ∙ ap (num 2 i.bytes.now) c.entry_at.ensures ∙ owner_read i.g i.bytes.now c.args.b.0 c.requires.b_lt_blocks
