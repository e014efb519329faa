-- `index::write_index` meets its contract: an index that says where each block stands is the index of the tables.
use mathlib.Core.Path.{◌∙◌}
use Rattle.image.specs.Views.{front_of}
use Rattle.rules.specs.Facts.{Indexed}
use Rattle.rules.proofs.Index.{index_known}
use Rattle.index.proofs.Filling.{starts_emptied, spare_emptied}
use Rattle.index.proofs.write_index.Goals as goal
use Rattle.index.proofs.write_index.Goals.{After-write_starts}

-- the index stays as long as it was
indexed : (c : After-write_starts) → Indexed c.args.image.now.g c.write_starts.new.index
indexed c = let p = c.requires in record { allowed = p.indexed.allowed; long = c.write_starts.auto.index ∙ p.indexed.long }

pub put_blocks-requires-clause-spare : goal.put_blocks-requires-clause-spare
put_blocks-requires-clause-spare c =
    let i = c.args.image.now in
    let long = indexed (goal.at.put_blocks-requires-clause-spare c).After-write_starts in
    rw (c.fill_u16.ensures, c.slot_at.ensures) (spare_emptied i.g (front_of i) c.write_starts.new.index long)

pub put_blocks-requires-clause-starts : goal.put_blocks-requires-clause-starts
put_blocks-requires-clause-starts c =
    let i = c.args.image.now in
    let long = indexed (goal.at.put_blocks-requires-clause-starts c).After-write_starts in
    rw (c.fill_u16.ensures, c.slot_at.ensures) (starts_emptied i.g (front_of i) c.write_starts.new.index long c.write_starts.ensures)

pub returns : goal.returns
returns c =
    let i = c.args.image.now in
    let p = c.requires in
    let long = c.put_blocks.auto.index ∙ c.fill_u16.auto.s ∙ (indexed (goal.at.returns c).After-write_starts).long in
    let done = c.put_blocks.ensures in
    index_known i.g p.indexed.allowed (front_of i) p.rules p.image_bound c.put_blocks.new.index long
    (λ k. (c.type_inv.index k).fits) done.starts done.blocks done.spare
