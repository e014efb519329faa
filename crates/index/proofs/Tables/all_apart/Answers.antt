-- No two blocks stand in one slot of a region before `r`, whose start is `from`.
use Prim.Native.Nat.{◌+◌, ◌<◌}
use mathlib.Core.Path.{◌≡◌, refl, sym, ◌∙◌}
use Rattle.laws.proofs.Folds.{sum_none}
use Rattle.image.specs.Views.{front_of}
use Rattle.paper.specs.Image.{taken}
use Rattle.index.proofs.Slots.{start_below, regions_left}
use Rattle.index.proofs.Repeats.{apart_none, apart_join, apart_part}
use native.Mathlib.Omega.{arith}
use Rattle.index.proofs.Tables.all_apart.Goals as goal
use Rattle.index.proofs.Tables.all_apart.Goals.{After-min}

-- slots are left, and so are regions
left : (c : After-min) → c.loop-from.r < c.args.self.now.image.g.entries
left c =
    let i = c.args.self.now.image in
    let x = c.loop-from in
    regions_left i.g (front_of i) c.args.self.now.tabled.slotted x.r x.invariant.0
    (omega (arith, x.invariant.1, c.taken-n.ensures, c.loop-from-test.true))

pub loop-from-init : goal.loop-from-init
loop-from-init c = (omega arith, sym (sum_none _), apart_none _ _ _, λ l. refl)

pub returns-then-not-windows_apart : goal.returns-then-not-windows_apart
returns-then-not-windows_apart c =
    let i = c.args.self.now.image in
    let x = c.loop-from in
    let t = front_of i in
    let to = c.read_starts-to in
    let m = start_below i.g t c.args.self.now.tabled.slotted (x.r + c.min.result) (omega (arith, c.min.ensures)) in
    let twice = sym c.windows_apart.ensures ∙ c.if-not-windows_apart.true in
    sym (apart_part i.g t 0 (taken i.g t) x.from to.result (omega arith) (omega (arith, to.ensures.0, m)) twice)

pub loop-from-preserved : goal.loop-from-preserved
loop-from-preserved c =
    let i = c.args.self.now.image in
    let x = c.loop-from in
    let to = c.read_starts-to in
    let once = sym c.windows_apart.ensures ∙ c.if-not-windows_apart.false in (
      omega (arith, c.min.ensures),
      to.ensures.0,
      apart_join i.g (front_of i) 0 x.from to.result x.invariant.2 once,
      λ l. let aligned = x.invariant.3 (left (goal.at.loop-from-preserved c).After-min) in omega (arith, aligned, c.min.ensures),
    )

pub returns : goal.returns
returns c =
    let i = c.args.self.now.image in
    let x = c.loop-from in
    let t = front_of i in
    let m = start_below i.g t c.args.self.now.tabled.slotted x.r x.invariant.0 in
    let d : x.from ≡ taken i.g t = omega (arith, m, x.invariant.1, c.taken-n.ensures) in
    sym (rw d at x.invariant.2)
