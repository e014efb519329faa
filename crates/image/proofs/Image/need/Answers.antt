-- `image::Image::need` meets its contract.
use mathlib.Core.Path.{◌∙◌, ap, sym}
use Rattle.paper.specs.Geometry.{need}
use Rattle.paper.specs.Image.{pages_in}
use Rattle.rules.proofs.Facts.{is_open_lem, is_not_open, is_past, need_open, need_not_open}
use Rattle.image.specs.Views.{front_of}
use native.Mathlib.Omega.{arith}
use Rattle.image.proofs.Image.need.Goals as goal

pub returns-then-self-r : goal.returns-then-self-r
returns-then-self-r c =
    let i = c.args.self.now in
    sym (need_not_open i.g (front_of i) c.args.r.0 (is_past i.g _ c.args.r.0 (omega arith)))

pub returns-in-Some : goal.returns-in-Some
returns-in-Some c =
    let i = c.args.self.now in
    let size = c.in-Some.ensures in
    c.need.ensures
    ∙ sym (ap (need i.g) (ap pages_in size))
    ∙ sym (need_open i.g (front_of i) c.args.r.0 (is_open_lem i.g (front_of i) c.args.r.0 (omega arith) c.in-Some.n.0 size))

pub returns-in-None : goal.returns-in-None
returns-in-None c =
    let i = c.args.self.now in
    sym (need_not_open i.g (front_of i) c.args.r.0 (is_not_open i.g (front_of i) c.args.r.0 c.in-None.ensures))
