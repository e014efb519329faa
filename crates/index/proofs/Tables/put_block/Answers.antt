-- `index::Tables::put_block` meets its contract: the start and the place are the block's slot, which is one of N.
use Rattle.std.proofs.Common.{◌≡◌, ◌+◌, ◌<◌, rules, arith}
use Rattle.image.specs.Views.{front_of}
use Rattle.rules.specs.Facts.{slot_for}
use Rattle.index.proofs.Slots.{owner_below, slot_below}
use Rattle.index.proofs.Tables.put_block.Goals as goal
use Rattle.index.proofs.Tables.put_block.Goals.{After-place-place}

-- the two are that slot
told : (c : After-place-place) → let i = c.args.self.now.image in
    (c.start-start.result + c.place-place.result.0 ≡ slot_for i.g (front_of i) c.args.b.0) × (slot_for i.g (front_of i) c.args.b.0 < i.g.blocks)
told c =
    let T = c.args.self.now.tabled in
    let inside = owner_below _ _ T.slotted _ c.requires.b_bound in
    let right = c.requires.starts c.owner.result.0 (omega (arith, inside, c.owner.ensures)) in
    let below = slot_below _ _ T.slotted _ c.requires.b_bound in
    (search (arith, right, c.start-start.ensures, c.owner.ensures, c.place-place.ensures), omega (arith, below, T.bound))

pub start-start-requires : goal.start-start-requires
start-start-requires c =
    let inside = owner_below _ _ c.args.self.now.tabled.slotted _ c.requires.b_bound in
    omega (arith, inside, c.owner.ensures)

pub overflow_add-start : goal.overflow_add-start
overflow_add-start c =
    let slot = told (goal.at.overflow_add-start c).After-place-place in
    omega (arith, slot, c.requires.indexed.allowed.blocks_most)

pub slot_at-requires-clause-s_lt_blocks : goal.slot_at-requires-clause-s_lt_blocks
slot_at-requires-clause-s_lt_blocks c =
    let slot = told (goal.at.slot_at-requires-clause-s_lt_blocks c).After-place-place in
    omega (arith, slot)

pub write-requires : goal.write-requires
write-requires c =
    let slot = told (goal.at.write-requires c).After-place-place in
    omega (arith, slot, c.slot_at.ensures, c.requires.indexed.long)

pub returns : goal.returns
returns c =
    let slot = told (goal.at.returns c).After-place-place in
    search (rules, slot, c.slot_at.ensures, c.write.ensures)
