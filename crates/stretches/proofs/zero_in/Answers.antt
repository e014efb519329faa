-- `zero_in` meets its contract: before the walk's spot the image is that of a store of zeros.
use Prim.Native.Nat.{ℕ, ◌+◌, ◌-◌}
use mathlib.Core.Path.{◌≡◌, refl, sym, ap, ◌∙◌}
use mathlib.Core.List.{List}
use lib.ListN.{length, replicate, length-replicate}
use Rattle.laws.specs.Bytes.{splice}
use Rattle.laws.proofs.Lists.{zeros, zeros_part}
use Rattle.rules.proofs.Right.{reads_index, reads_need}
use Rattle.stretches.specs.Stretch.{block_from, IsStep, Turn, Fits}
use Rattle.stretches.proofs.Walks.{spot_first, walk_start, walk_end, same_step, step_on, step_turn, step_fits, written_none, step_written, written_done}
use native.Mathlib.Omega.{arith}
use Rattle.stretches.proofs.zero_in.Goals as goal
use Rattle.stretches.proofs.zero_in.Goals.{After-byte_at-from, In-Some}

step : (c : In-Some)
    → let x = c.loop-at.at-iterator in
    let y = c.next.new.self in
    IsStep c.args.index.now.g x.at x.left c.in-Some.at c.in-Some.bytes y.at y.left
step c = same_step c.loop-at.invariant.geometry c.in-Some.ensures.steps.0

turn : (c : In-Some)
    → let i = c.args.index.now in
    Turn i.g i.bytes.now c.start-start.result c.in-Some.at (length c.args.image.now)
turn c = step_turn c.loop-at.invariant.walk (step c) c.requires.0 c.start-start.ensures

fits : (c : After-byte_at-from)
    → let x = c.loop-at in
    Fits c.args.n x.at-iterator.left (length x.image) (record { at = c.byte_at-from.result; bytes = c.in-Some.bytes })
fits c =
    let p = (goal.at.After-byte_at-from c).In-Some in
    rw c.loop-at.auto.image (step_fits c.loop-at.invariant.walk (step p) (turn p) c.byte_at-from.ensures)

pub start-start-requires : goal.start-start-requires
start-start-requires c = record { r_le_entries = (reads_index _ _ _ _ _ _ c.requires.0).1 }

pub loop-at-init : goal.loop-at-init
loop-at-init c =
    let a = c.args in
    rw c.into_iter-at-iterator.ensures.into_iter_gives (record {
      geometry = refl;
      walk = walk_start a.index.now.g a.spot c.requires.1 a.n;
      written = written_none a.index.now.g (block_from a.index.now.g a.index.now.bytes.now c.start-start.result) _ (zeros a.n) a.image.now a.spot.position.0 (spot_first a.index.now.g a.spot c.requires.1);
    })

pub byte_at-from-requires : goal.byte_at-from-requires
byte_at-from-requires c = let T = turn (goal.at.byte_at-from-requires c).In-Some in (T.slot, T.inside)

pub overflow_add-from : goal.overflow_add-from
overflow_add-from c = let F = fits (goal.at.overflow_add-from c).After-byte_at-from in omega (arith, F.image)

pub zero_part-requires : goal.zero_part-requires
zero_part-requires c = let F = fits (goal.at.zero_part-requires c).After-byte_at-from in (omega arith, omega (arith, F.image))

pub loop-at-preserved : goal.loop-at-preserved
loop-at-preserved c =
    let x = c.loop-at in
    let g = c.args.index.now.g in
    let A = c.args.index.now.indexed.allowed in
    let p = goal.at.loop-at-preserved c in
    let S = step p.In-Some in
    let n = c.args.n in
    let a = c.byte_at-from.result in
    let k = c.in-Some.bytes in
    let e : a + k - a ≡ k = omega arith in
    let part = zeros_part (n - x.at-iterator.left) k n (fits p.After-byte_at-from).asked in
    record {
      geometry = c.in-Some.ensures.steps.1 ∙ x.invariant.geometry;
      walk = step_on x.invariant.walk S A;
      written = step_written g (block_from g c.args.index.now.bytes.now c.start-start.result) _ (zeros n) c.args.image.now A (length-replicate n 0) x.invariant.walk S x.invariant.written c.byte_at-from.ensures refl
          (c.zero_part.ensures ∙ ap (λ (z : List ℕ). splice a z x.image) (ap (λ (m : ℕ). replicate m 0) e ∙ sym part));
    }

pub returns : goal.returns
returns c =
    let a = c.args in
    let x = c.loop-at in
    let A = a.index.now.indexed.allowed in
    written_done _ _ (zeros a.n) a.r.0 _ A x.invariant.written c.start-start.ensures (rw length-replicate (walk_end A x.invariant.walk c.in-None.ensures.steps))
    (rw length-replicate (reads_need _ _ _ _ _ _ c.requires.0))
