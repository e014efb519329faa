-- `image::Image::is_open` meets its contract.
use mathlib.Core.Path.{sym, ◌∙◌}
use Rattle.rules.proofs.Facts.{is_past}
use Rattle.image.specs.Views.{front_of}
use Rattle.image.proofs.Entries.{open_sized}
use native.Mathlib.Omega.{arith}
use Rattle.image.proofs.Image.is_open.Goals as goal

pub returns-then-self-r : goal.returns-then-self-r
returns-then-self-r c = sym (is_past c.args.self.now.g _ c.args.r.0 (omega arith))

pub returns : goal.returns
returns c =
    let i = c.args.self.now in
    c.is_some.ensures ∙ open_sized i.g (front_of i) c.args.r.0 (omega arith) c.size.result c.size.ensures
