-- `copy_in` meets its contract: before the walk's spot the image is the store's.
use mathlib.Core.Path.{refl, ◌∙◌}
use lib.ListN.{length}
use Rattle.rules.proofs.Right.{reads_index, reads_need}
use Rattle.stretches.specs.Stretch.{block_from, IsStep, Turn, Fits}
use Rattle.stretches.proofs.Walks.{spot_first, walk_start, walk_end, same_step, step_on, step_done, step_turn, step_fits, written_none, step_written, written_done}
use native.Mathlib.Omega.{arith}
use Rattle.stretches.proofs.copy_in.Goals as goal
use Rattle.stretches.proofs.copy_in.Goals.{After-byte_at-to, In-Some}

step : (c : In-Some)
    → let x = c.loop-at.at-iterator in
    let y = c.next.new.self in
    IsStep c.args.index.now.g x.at x.left c.in-Some.at c.in-Some.n y.at y.left
step c = same_step c.loop-at.invariant.geometry c.in-Some.ensures.steps.0

turn : (c : In-Some)
    → let i = c.args.index.now in
    Turn i.g i.bytes.now c.start-start.result c.in-Some.at (length c.args.image.now)
turn c = step_turn c.loop-at.invariant.walk (step c) c.requires.0 c.start-start.ensures

fits : (c : After-byte_at-to)
    → let x = c.loop-at in
    Fits (length c.args.bytes.now) x.at-iterator.left (length x.image) (record { at = c.byte_at-to.result; bytes = c.in-Some.n })
fits c =
    let p = (goal.at.After-byte_at-to c).In-Some in
    rw c.loop-at.auto.image (step_fits c.loop-at.invariant.walk (step p) (turn p) c.byte_at-to.ensures)

pub start-start-requires : goal.start-start-requires
start-start-requires c = record { r_le_entries = (reads_index _ _ _ _ _ _ c.requires.0).1 }

pub loop-at-init : goal.loop-at-init
loop-at-init c =
    let a = c.args in
    rw c.into_iter-at-iterator.ensures.into_iter_gives (record {
      geometry = refl;
      walk = walk_start a.index.now.g a.spot c.requires.1 (length a.bytes.now);
      done = omega arith;
      written = written_none a.index.now.g (block_from a.index.now.g a.index.now.bytes.now c.start-start.result) _ a.bytes.now a.image.now a.spot.position.0 (spot_first a.index.now.g a.spot c.requires.1);
    })

pub byte_at-to-requires : goal.byte_at-to-requires
byte_at-to-requires c = let T = turn (goal.at.byte_at-to-requires c).In-Some in (T.slot, T.inside)

pub copy_part-requires : goal.copy_part-requires
copy_part-requires c = let F = fits (goal.at.copy_part-requires c).After-byte_at-to in (omega (arith, F.asked, c.loop-at.invariant.done), omega (arith, F.image))

pub overflow_add-done : goal.overflow_add-done
overflow_add-done c = let F = fits (goal.at.overflow_add-done c).After-byte_at-to in omega (arith, F.asked, c.loop-at.invariant.done)

pub loop-at-preserved : goal.loop-at-preserved
loop-at-preserved c =
    let x = c.loop-at in
    let A = c.args.index.now.indexed.allowed in
    let S = step (goal.at.loop-at-preserved c).In-Some in
    let at = block_from c.args.index.now.g c.args.index.now.bytes.now c.start-start.result in
    record {
      geometry = c.in-Some.ensures.steps.1 ∙ x.invariant.geometry;
      walk = step_on x.invariant.walk S A;
      done = step_done x.invariant.walk S x.invariant.done;
      written = step_written _ at _ c.args.bytes.now c.args.image.now A refl x.invariant.walk S x.invariant.written c.byte_at-to.ensures x.invariant.done c.copy_part.ensures;
    }

pub returns : goal.returns
returns c =
    let a = c.args in
    let x = c.loop-at in
    let A = a.index.now.indexed.allowed in
    written_done _ _ a.bytes.now a.r.0 _ A x.invariant.written c.start-start.ensures (walk_end A x.invariant.walk c.in-None.ensures.steps) (reads_need _ _ _ _ _ _ c.requires.0)
