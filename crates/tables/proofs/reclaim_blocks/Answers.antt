-- `tables::reclaim_blocks` meets its contract: what the loop hasn't come to stands as it did in the tables before.
use Prim.Native.Nat.{ℕ, ◌≤◌}
use mathlib.Core.Path.{refl, ◌∙◌}
use mathlib.Core.List.{List}
use lib.ListN.{length}
use Rattle.laws.specs.Folds.{steps}
use Rattle.laws.proofs.Folds.{steps_none, steps_more}
use Rattle.paper.specs.declared.Geometry.{Geometry}
use Rattle.paper.specs.Geometry.{front_bytes}
use Rattle.paper.specs.Image.{front}
use Rattle.paper.specs.Calls.{reclaiming}
use Rattle.rules.specs.Facts.{Readable}
use Rattle.rules.proofs.Cells.{length_front}
use Rattle.rules.proofs.Fronts.{front_fits, unchanged, front_is, then}
use Rattle.tables.proofs.Releasing.{later, place_fits}
use native.Mathlib.Omega.{arith}
use Rattle.tables.proofs.reclaim_blocks.Goals as goal

-- its front is whole
whole : (g : Geometry) (m : List ℕ) → Readable g m → front_bytes g ≤ length (front g m)
whole g m R = rw (length_front g m (front_fits g m R)) (omega arith)

pub loop-b-init : goal.loop-b-init
loop-b-init c = (omega arith, refl, rw steps_none (unchanged c.args.g c.args.image.now))

pub reclaim-requires-clause-b_bound : goal.reclaim-requires-clause-b_bound
reclaim-requires-clause-b_bound c =
    let a = c.args in
    let x = c.loop-b in
    let t = front a.g a.image.now in
    let p = c.requires in
    let R = p.releasable in
    let n = c.taken-b-end.ensures in
    let u = steps x.b (reclaiming a.g t a.region.0 a.spare) t in
    let f = front_is a.g a.image.now x.image u p.readable x.invariant.1 x.invariant.2 in
    let L = later a.g t (whole a.g a.image.now p.readable) a.region.0 a.spare x.b (omega (arith, R.bound)) in
    rw (f, L.owners x.b (omega arith), L.places x.b (omega arith))
    (λ e. omega (arith, p.spare_value, place_fits a.g t a.region.0 p.readable.allowed R x.b (omega arith) e))

pub loop-b-preserved : goal.loop-b-preserved
loop-b-preserved c =
    let a = c.args in
    let x = c.loop-b in
    let t = front a.g a.image.now in
    let p = c.requires in
    let u = steps x.b (reclaiming a.g t a.region.0 a.spare) t in
    let n = c.taken-b-end.ensures in
    let L = later a.g t (whole a.g a.image.now p.readable) a.region.0 a.spare x.b (omega (arith, p.releasable.bound)) in (
      omega arith,
      c.reclaim.auto.image ∙ x.invariant.1,
      then a.g a.image.now x.image u p.readable x.invariant.1 x.invariant.2 (λ v. reclaiming a.g v a.region.0 a.spare x.b v)
          c.reclaim.new.image c.reclaim.ensures
          ∙ rw (steps_more x.b, L.owners x.b (omega arith), L.places x.b (omega arith)),
    )
