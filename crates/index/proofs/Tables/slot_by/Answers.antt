-- `index::Tables::slot_by` meets its contract: a position below the need is less than N.
use Rattle.std.proofs.Common.{◌%◌, arith}
use Rattle.index.specs.Repeats.{regions_at_once}
use Rattle.index.proofs.Slots.{slot_below}
use Rattle.index.proofs.Tables.slot_by.Goals as goal

pub overflow_add-result : goal.overflow_add-result
overflow_add-result c =
    let below = slot_below _ _ c.args.self.now.tabled.slotted _ c.requires.b_bound in
    omega (arith, c.type_inv.starts (c.owner.result.0 % regions_at_once), c.place.ensures, below, c.args.self.now.tabled.bound, c.args.self.now.tabled.readable.allowed.blocks_most)
