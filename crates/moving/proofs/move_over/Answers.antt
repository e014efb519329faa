-- `moving::move_over` meets its contract: refused, or the block copied, the reserve written and the index.
use mathlib.Core.Path.{sym, ◌∙◌}
use Rattle.paper.specs.Outcomes.{lent}
use Rattle.rules.proofs.Fronts.{still_readable}
use Rattle.rules.proofs.Lines.{move_accepted, move_done}
use Rattle.keeping.proofs.Moved.{move_room, moved_writable, moved_left}
use Rattle.desk.proofs.Refusing.{move_left}
use Rattle.moving.proofs.move_over.Goals as goal

pub returns-in_err-movable : goal.returns-in_err-movable
returns-in_err-movable c = move_left _ _ _ _ _ _ c.from_residual.ensures.1 (sym c.in_err-movable.ensures)

pub move_block-requires : goal.move_block-requires
move_block-requires c =
    let M = move_accepted _ _ _ _ (sym c.in_ok-movable.ensures) in
    (M.readable, move_room _ _ _ _ M)

pub write_reserve-requires : goal.write_reserve-requires
write_reserve-requires c =
    let M = move_accepted _ _ _ _ (sym c.in_ok-movable.ensures) in
    (still_readable _ _ _ M.readable c.move_block.auto.image, M.most)

pub invariant_of-write_index : goal.invariant_of-write_index
invariant_of-write_index c =
    let M = move_accepted _ _ _ _ (sym c.in_ok-movable.ensures) in
    let w = moved_writable _ _ _ _ M _ (rw c.move_block.ensures at c.write_reserve.ensures) in
    record { readable = w.0.0 }

pub write_index-requires : goal.write_index-requires
write_index-requires c =
    let M = move_accepted _ _ _ _ (sym c.in_ok-movable.ensures) in
    let w = moved_writable _ _ _ _ M _ (rw c.move_block.ensures at c.write_reserve.ensures) in
    record { indexed = w.0.1; image_bound = w.1.0; rules = w.1.1 }

pub returns : goal.returns
returns c =
    let a = c.args in
    let k = sym c.in_ok-movable.ensures in
    let e = rw c.move_block.ensures at c.write_reserve.ensures in
    moved_left _ _ _ _ (move_accepted _ _ _ _ k) _ e _ c.write_index.ensures ∙ sym (move_done a.g a.pages.0 (lent a.image.now a.index.now) k)
