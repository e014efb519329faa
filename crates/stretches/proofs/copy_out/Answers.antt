-- `copy_out` meets its contract: the buffer holds as many of the book's bytes as are done.
use mathlib.Core.Path.{◌≡◌, refl, ◌∙◌}
use lib.ListN.{length}
use Rattle.laws.proofs.Lists.{copied_splice}
use Rattle.rules.proofs.Right.{reads_index}
use Rattle.stretches.specs.Stretch.{block_from, IsStep, Turn, Fits}
use Rattle.stretches.proofs.Walks.{walk_start, same_reads, same_step, step_on, step_done, step_turn, step_fits, read_none, step_read, read_done}
use native.Mathlib.Omega.{arith}
use Rattle.stretches.proofs.copy_out.Goals as goal
use Rattle.stretches.proofs.copy_out.Goals.{After-byte_at-from, In-Some}

step : (c : In-Some)
    → let x = c.loop-at.at-iterator in
    let y = c.next.new.self in
    IsStep c.args.lent.now.index.g x.at x.left c.in-Some.at c.in-Some.bytes y.at y.left
step c = same_step c.loop-at.invariant.geometry c.in-Some.ensures.steps.0

turn : (c : In-Some)
    → let l = c.args.lent.now in
    Turn l.index.g l.index.bytes.now c.start-start.result c.in-Some.at (length l.image.bytes.now)
turn c = step_turn c.loop-at.invariant.walk (step c) (same_reads _ c.args.lent.now.same c.requires).0 c.start-start.ensures

fits : (c : After-byte_at-from)
    → let a = c.args in
    Fits (length a.buffer.now) c.loop-at.at-iterator.left (length a.lent.now.image.bytes.now) (record { at = c.byte_at-from.result; bytes = c.in-Some.bytes })
fits c = let p = (goal.at.After-byte_at-from c).In-Some in step_fits c.loop-at.invariant.walk (step p) (turn p) c.byte_at-from.ensures

pub start-start-requires : goal.start-start-requires
start-start-requires c = record { r_le_entries = (reads_index _ _ _ _ _ _ (same_reads _ c.args.lent.now.same c.requires).0).1 }

pub loop-at-init : goal.loop-at-init
loop-at-init c =
    let a = c.args in
    let R = same_reads _ a.lent.now.same c.requires in
    rw c.into_iter-at-iterator.ensures.into_iter_gives (record {
      geometry = refl;
      walk = walk_start a.lent.now.index.g a.spot R.1 (length a.buffer.now);
      done = omega arith;
      read = read_none _ R.0.entered.geometry _ _ _ _ _ refl;
    })

pub byte_at-from-requires : goal.byte_at-from-requires
byte_at-from-requires c = let T = turn (goal.at.byte_at-from-requires c).In-Some in (T.slot, T.inside)

pub overflow_add-from : goal.overflow_add-from
overflow_add-from c = let F = fits (goal.at.overflow_add-from c).After-byte_at-from in omega (arith, F.image)

pub slice_bounds-copy-end : goal.slice_bounds-copy-end
slice_bounds-copy-end c = let F = fits (goal.at.slice_bounds-copy-end c).After-byte_at-from in omega (arith, F.image)

pub overflow_add-done : goal.overflow_add-done
overflow_add-done c = let F = fits (goal.at.overflow_add-done c).After-byte_at-from in omega (arith, F.asked)

pub slice_bounds-copy-end-in-loop-at : goal.slice_bounds-copy-end-in-loop-at
slice_bounds-copy-end-in-loop-at c = let F = fits (goal.at.slice_bounds-copy-end-in-loop-at c).After-byte_at-from in omega (arith, F.asked)

pub loop-at-preserved : goal.loop-at-preserved
loop-at-preserved c =
    let p = goal.at.loop-at-preserved c in
    let a = c.args in
    let x = c.loop-at in
    let A = a.lent.now.index.indexed.allowed in
    let S = step p.In-Some in
    let F = fits p.After-byte_at-from in
    let at = block_from a.lent.now.index.g a.lent.now.index.bytes.now c.start-start.result in
    record {
      geometry = c.in-Some.ensures.steps.1 ∙ x.invariant.geometry;
      walk = step_on x.invariant.walk S A;
      done = step_done x.invariant.walk S x.invariant.done;
      read = copied_splice _ x.done _ _ x.buffer _ F.image c.copy.ensures
          ∙ rw x.invariant.read (step_read at _ a.buffer.now A x.invariant.walk S c.byte_at-from.ensures F.image x.invariant.done);
    }

pub returns : goal.returns
returns c =
    let a = c.args in
    let x = c.loop-at in
    let e : x.done ≡ length a.buffer.now = omega (arith, x.invariant.done, c.in-None.ensures.steps) in
    rw (← a.lent.now.same) (read_done _ _ a.buffer.now a.r.0 _ a.lent.now.index.indexed.allowed x.invariant.read c.start-start.ensures e)
