-- `tables::open_tables` meets its contract: the counter raised, then the region's pages, in one front.
use mathlib.Core.Path.{◌∙◌}
use Rattle.paper.specs.Image.{front, set_pages}
use Rattle.paper.specs.Calls.{opened, raised}
use Rattle.rules.proofs.Fronts.{then}
use Rattle.tables.proofs.open_tables.Goals as goal

pub returns : goal.returns
unfolding opened
returns c =
    let a = c.args in
    let w = c.raise_counter in
    let p = c.set_pages in
    then a.g a.image.now w.new.image (raised a.g (front a.g a.image.now)) c.requires.readable w.auto.image w.ensures
    (set_pages a.g a.region.0 0) p.new.image p.ensures
    ∙ cc c.requires.region_value.0
