-- The bit of a slot is set exactly where a block below `b` stands in it, and no two of these stand in one slot of the window.
use Prim.Native.Nat.{◌/◌, ◌<◌}
use mathlib.Core.Path.{◌≡◌, refl, sym, ◌∙◌}
use lib.ListN.{length, get_or-replicate}
use Rattle.laws.proofs.Folds.{all_none, all_more, not_all}
use Rattle.image.specs.Views.{front_of}
use Rattle.paper.specs.Image.{taken}
use Rattle.index.specs.Repeats.{apart}
use Rattle.index.proofs.Repeats.{passes, marks_none, marks_more, unseen_free}
use native.Mathlib.Omega.{arith}
use Rattle.index.proofs.Tables.window_apart.Goals as goal
use Rattle.index.proofs.Tables.window_apart.Goals.{After-mark, In-loop-b}

-- the block to mark is taken
inside : (c : In-loop-b) → c.loop-b.b < taken c.args.self.now.image.g (front_of c.args.self.now.image)
inside c = omega (arith, c.taken-b-end.ensures)

-- its mark says whether it passes
says : (c : After-mark) → let i = c.args.self.now.image in c.mark.result ≡ passes i.g (front_of i) c.args.w.from c.args.w.to c.loop-b.b
says c =
    let i = c.args.self.now.image in
    let p = c.requires in
    let told = rw (c.in_window-one.ensures, c.slot_by-s.ensures) at c.mark.ensures.value in
    told
    ∙ unseen_free i.g (front_of i) c.args.w c.loop-b.work.starts c.args.self.now.tabled.slotted (rw c.loop-b.invariant.1 p.framed) p.run
    c.loop-b.b (omega (arith, c.taken-b-end.ensures)) c.loop-b.work.seen c.loop-b.invariant.2

pub loop-b-init : goal.loop-b-init
loop-b-init c =
    let i = c.args.self.now.image in
    let t = front_of i in (
      omega arith,
      refl,
      marks_none i.g t c.args.w.from c.args.w.to c.zero.new.part (λ k h. rw c.zero.ensures (get_or-replicate (length c.args.work.now.seen) (k / 8) 0 0 (omega arith))),
      all_none (passes i.g t c.args.w.from c.args.w.to),
    )

pub returns-then-not-mark-clause-value : goal.returns-then-not-mark-clause-value
unfolding apart
returns-then-not-mark-clause-value c =
    let i = c.args.self.now.image in
    let t = front_of i in
    let twice = sym (says (goal.at.returns-then-not-mark-clause-value c).After-mark) ∙ c.if-not-mark.true in
    sym (not_all (taken i.g t) (passes i.g t c.args.w.from c.args.w.to) c.loop-b.b (inside (goal.at.returns-then-not-mark-clause-value c).In-loop-b) twice)

pub loop-b-preserved : goal.loop-b-preserved
loop-b-preserved c =
    let i = c.args.self.now.image in
    let p = c.requires in
    let t = front_of i in
    let once = sym (says (goal.at.loop-b-preserved c).After-mark) ∙ c.if-not-mark.false in (
      omega arith,
      c.loop-b.invariant.1,
      rw (c.mark.ensures.seen_after, c.in_window-one.ensures, c.slot_by-s.ensures)
          (marks_more i.g t c.args.w c.loop-b.work.starts c.args.self.now.tabled.slotted (rw c.loop-b.invariant.1 p.framed) p.run
          c.loop-b.b (inside (goal.at.loop-b-preserved c).In-loop-b) c.loop-b.work.seen c.loop-b.invariant.2 (omega arith)),
      all_more c.loop-b.b (passes i.g t c.args.w.from c.args.w.to) c.loop-b.invariant.3 once,
    )

pub returns-clause-value : goal.returns-clause-value
unfolding apart
returns-clause-value c =
    let i = c.args.self.now.image in
    let e : c.loop-b.b ≡ taken i.g (front_of i) = omega (arith, c.taken-b-end.ensures) in
    sym (rw e at c.loop-b.invariant.3)
