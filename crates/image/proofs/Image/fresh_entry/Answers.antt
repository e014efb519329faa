-- `image::Image::fresh_entry` meets its contract.
use mathlib.Core.Path.{sym, ap}
use Rattle.paper.specs.Geometry.{all_ones}
use Rattle.paper.specs.Image.{version_of}
use Rattle.rules.proofs.Cells.{version3_width, version2_width}
use Rattle.image.specs.Views.{front_of}
use Rattle.image.proofs.Image.fresh_entry.Goals as goal

pub returns-then-is_version_3 : goal.returns-then-is_version_3
returns-then-is_version_3 c =
    let i = c.args.self.now in
    sym (ap all_ones (version3_width (version_of i.g (front_of i)) (sym c.if-is_version_3.ensures)))

pub returns : goal.returns
returns c =
    let i = c.args.self.now in
    sym (ap all_ones (version2_width (version_of i.g (front_of i)) (sym c.if-is_version_3.ensures)))
