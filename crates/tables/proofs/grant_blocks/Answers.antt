-- `tables::grant_blocks` meets its contract: each grant is one step more from the tables that the first began with.
use mathlib.Core.Path.{refl, ◌∙◌}
use Rattle.laws.specs.Folds.{steps}
use Rattle.laws.proofs.Folds.{steps_none, steps_more}
use Rattle.paper.specs.Image.{front}
use Rattle.rules.proofs.Fronts.{unchanged, then}
use Rattle.tables.specs.Grant.{placed}
use native.Mathlib.Omega.{arith}
use Rattle.tables.proofs.grant_blocks.Goals as goal

pub loop-j-init : goal.loop-j-init
loop-j-init c = (omega arith, refl, rw steps_none (unchanged c.args.index.now.g c.args.image.now))

pub loop-j-preserved : goal.loop-j-preserved
loop-j-preserved c =
    let a = c.args in
    let x = c.loop-j in
    let g = a.index.now.g in
    let step = placed g a.index.now.bytes.now a.region.0 c.take_stock-s.result in
    let t = front g a.image.now in (
      omega arith,
      c.grant.auto.image ∙ x.invariant.1,
      then g a.image.now x.image (steps x.j step t) c.requires.readable x.invariant.1 x.invariant.2 (step x.j) c.grant.new.image
          c.grant.ensures
          ∙ rw (steps_more x.j),
    )
