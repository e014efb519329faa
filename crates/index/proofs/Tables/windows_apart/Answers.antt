-- No two blocks stand in one slot before `from`; while slots are left, those before it are of earlier runs.
use Prim.Native.Nat.{◌<◌}
use mathlib.Core.Path.{refl, sym, ◌∙◌}
use Rattle.laws.proofs.Folds.{sum_mono}
use Rattle.image.specs.Views.{front_of}
use Rattle.paper.specs.Image.{need_of}
use Rattle.index.proofs.Slots.{start_below}
use Rattle.index.proofs.Repeats.{apart_none, apart_join, apart_part}
use native.Mathlib.Omega.{arith}
use Rattle.index.proofs.Tables.windows_apart.Goals as goal
use Rattle.index.proofs.Tables.windows_apart.Goals.{Start}

-- the slots end at N or before
small : (c : Start) → c.args.w.to < 65536
small c =
    let i = c.args.self.now.image in
    let T = c.args.self.now.tabled in
    let F = c.requires.framed in
    omega (arith, c.requires.all.high, start_below i.g (front_of i) T.slotted c.args.w.last.0 (omega (arith, F.whole, F.order)), T.bound, T.readable.allowed.blocks_most)

pub loop-from-init : goal.loop-from-init
loop-from-init c =
    let i = c.args.self.now.image in
    let A = c.requires.all in
    let m = sum_mono (need_of i.g (front_of i)) c.args.w.first.0 c.args.w.last.0 (omega (arith, c.requires.framed.whole)) in
    (omega arith, omega (arith, A.low, A.high, m), refl, apart_none _ _ _, λ l s lo hi. absurd (omega arith))

pub overflow_mul-from : goal.overflow_mul-from
overflow_mul-from c = omega (arith, small (goal.at.overflow_mul-from c).Start)

pub returns-then-not-window_apart : goal.returns-then-not-window_apart
returns-then-not-window_apart c =
    let i = c.args.self.now.image in
    let to = c.min-to in
    let twice = sym c.window_apart.ensures.value ∙ c.if-not-window_apart.true in
    sym (apart_part i.g (front_of i) c.args.w.from c.args.w.to c.loop-from.from to.result (omega arith) (omega (arith, to.ensures)) twice)

pub loop-from-preserved : goal.loop-from-preserved
loop-from-preserved c =
    let i = c.args.self.now.image in
    let x = c.loop-from in
    let to = c.min-to in
    let once = sym c.window_apart.ensures.value ∙ c.if-not-window_apart.false in (
      omega (arith, to.ensures),
      omega (arith, to.ensures),
      c.window_apart.ensures.kept ∙ x.invariant.2,
      apart_join i.g (front_of i) c.args.w.from x.from to.result x.invariant.3 once,
      λ l s lo hi. omega (arith, to.ensures),
    )
