-- `image::Image::is_need_by` meets its contract.
use mathlib.Core.Path.{sym}
use Rattle.rules.proofs.Sentences.{need_short, need_held}
use Rattle.image.specs.Views.{front_of}
use native.Mathlib.Omega.{arith}
use Rattle.image.proofs.Image.is_need_by.Goals as goal

pub returns-then-room-n : goal.returns-then-room-n
returns-then-room-n c =
    let i = c.args.self.now in
    sym (need_short i.g (front_of i) i.readable.allowed.pages_least c.args.r.0 c.requires.r_lt_entries.0 c.args.blocks (omega (arith, c.pages_by-n.ensures)))

pub returns : goal.returns
returns c =
    let i = c.args.self.now in
    let e = c.pages_by-n.ensures in
    rw e (need_held i.g (front_of i) i.readable.allowed.pages_least c.args.r.0 c.requires.r_lt_entries.0 c.args.blocks (omega (arith, e)))
