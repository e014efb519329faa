-- `image::Image::unused_blank` meets its contract: it looks at the part of the image that the definition names.
use mathlib.Core.Path.{◌∙◌}
use Rattle.rules.proofs.Parts.{blank_part}
use Rattle.image.proofs.Image.unused_blank.Goals as goal

pub returns : goal.returns
returns c =
    let i = c.args.self.now in
    c.all_zero.ensures
    ∙ blank_part i.g i.readable.allowed i.bytes.now i.readable.long c.front_bytes.result c.block_bytes.result c.front_bytes.ensures c.block_bytes.ensures
