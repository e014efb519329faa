-- `index::Tables::alone_all` meets its contract: one slot is one pair.
use mathlib.Core.Path.{◌∙◌}
use Rattle.image.specs.Views.{front_of}
use Rattle.index.proofs.Repeats.{apart_alone}
use Rattle.index.proofs.Tables.alone_all.Goals as goal

pub returns : goal.returns
returns c =
    let i = c.args.self.now.image in
    c.all_apart.ensures ∙ apart_alone i.g (front_of i) c.args.self.now.tabled.slotted
