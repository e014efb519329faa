-- `books::extend` meets its contract: with the zeros laid the growth is still possible, and the grown front on them is the grown image.
use mathlib.Core.Path.{◌∙◌, ap}
use Rattle.paper.specs.Image.{front}
use Rattle.paper.specs.Index.{index_of}
use Rattle.paper.specs.Calls.{grown_front}
use Rattle.books.specs.Room.{Growing}
use Rattle.books.proofs.Left.{indexed, writable}
use Rattle.books.proofs.Growing.{grows, still_growing, grown_then}
use Rattle.books.proofs.extend.Goals as goal
use Rattle.books.proofs.extend.Goals.{After-zero_new}

-- the zeros change nothing that a growth asks
growing : (c : After-zero_new) → Growing c.args.g c.zero_new.new.image c.args.index.now c.args.region.0 c.args.pages.0
growing c =
    let a = c.args in
    still_growing a.g a.image.now a.index.now a.region.0 a.pages.0 c.requires.growing c.zero_new.new.image c.zero_new.ensures

pub invariant_of-before : goal.invariant_of-before
invariant_of-before c = record { indexed = indexed _ _ _ c.requires.growing.ordered }

pub grow_tables-requires : goal.grow_tables-requires
grow_tables-requires c = growing (goal.at.grow_tables-requires c).After-zero_new

pub index_anew-requires-clause-formed : goal.index_anew-requires-clause-formed
index_anew-requires-clause-formed c =
    let a = c.args in
    let z = c.zero_new.new.image in
    let W = growing (goal.at.index_anew-requires-clause-formed c).After-zero_new in
    let w = c.grow_tables in
    (writable a.g z a.index.now w.new.image (grown_front a.g a.region.0 a.pages.0 (front a.g z)) W.ordered w.auto.image w.ensures
    (grows a.g z a.index.now a.region.0 a.pages.0 W).formed).1

pub returns : goal.returns
returns c =
    let a = c.args in
    let p = c.requires in
    let e = grown_then a.g a.image.now a.index.now a.region.0 a.pages.0 p.growing c.zero_new.new.image c.zero_new.ensures p.value.1
    c.grow_tables.new.image c.grow_tables.ensures in
    (e, c.index_anew.ensures ∙ ap (λ i. index_of a.g (front a.g i)) e)
