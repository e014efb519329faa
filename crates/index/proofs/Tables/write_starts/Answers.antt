-- Every start before `r` stands, and `start` is the next.
use Prim.Native.Nat.{◌+◌, ◌≤◌, ◌<◌}
use mathlib.Core.Path.{◌≡◌, refl, sym, ap, ◌∙◌}
use Rattle.laws.proofs.Folds.{sum_none, sum_more}
use Rattle.image.specs.Views.{front_of}
use Rattle.paper.specs.Image.{need_of}
use Rattle.paper.specs.Index.{start_of}
use Rattle.rules.specs.Facts.{Indexed}
use Rattle.rules.proofs.Sentences.{start_given}
use Rattle.index.proofs.Slots.{need_inside, start_below}
use Rattle.index.proofs.Filling.{start_more, starts_filled}
use native.Mathlib.Omega.{arith}
use borrow.Author.Count.{below_none}
use Rattle.index.proofs.Tables.write_starts.Goals as goal
use Rattle.index.proofs.Tables.write_starts.Goals.{At-loop-r, In-loop-r}

-- the index stays as long as it was
indexed : (x : At-loop-r) → Indexed x.args.self.now.image.g x.loop-r.index
indexed x = let p = x.requires in record { allowed = p.indexed.allowed; long = x.loop-r.invariant.1 ∙ p.indexed.long }

-- the start and the region's need fit 2 bytes
fits : (c : In-loop-r) → let i = c.args.self.now.image in
    c.loop-r.start + need_of i.g (front_of i) c.loop-r.r < 65536
fits c =
    let i = c.args.self.now.image in
    let p = c.requires in
    let inside = need_inside i.g (front_of i) c.args.self.now.tabled.slotted c.loop-r.r (omega (arith, c.given_out-end.ensures)) in
    omega (arith, inside, c.args.self.now.tabled.bound, p.indexed.allowed.blocks_most)

-- so does the last
last_fits : (x : At-loop-r) → x.loop-r.start < 65536
last_fits x =
    let i = x.args.self.now.image in
    let T = x.args.self.now.tabled in
    let below = start_below i.g (front_of i) T.slotted x.loop-r.r (omega (arith, x.loop-r.invariant.0, x.given_out-end.ensures)) in
    omega (arith, x.loop-r.invariant.2, below, T.bound, x.requires.indexed.allowed.blocks_most)

pub loop-r-init : goal.loop-r-init
loop-r-init c =
    let i = c.args.self.now.image in
    (omega arith, refl, sym (sum_none (need_of i.g (front_of i))), below_none _)

pub overflow_cast-start : goal.overflow_cast-start
overflow_cast-start c = omega (arith, fits (goal.at.overflow_cast-start c).In-loop-r)

pub overflow_add-start : goal.overflow_add-start
overflow_add-start c =
    omega (arith, fits (goal.at.overflow_add-start c).In-loop-r)

pub loop-r-preserved : goal.loop-r-preserved
loop-r-preserved c =
    let i = c.args.self.now.image in
    let x = c.loop-r in
    let t = front_of i in
    let l : x.r ≤ i.g.entries = omega (arith, c.given_out-end.ensures) in
    let I = indexed (goal.at.loop-r-preserved c).At-loop-r in (
      omega arith,
      c.write.auto.s ∙ x.invariant.1,
      omega (arith, sum_more x.r (need_of i.g t)),
      rw (c.write.ensures, c.start_at.ensures) (start_more i.g t x.index I x.r x.start l (omega (arith, fits (goal.at.loop-r-preserved c).In-loop-r)) x.invariant.2 x.invariant.3),
    )

pub overflow_cast-start-2 : goal.overflow_cast-start-2
overflow_cast-start-2 c = omega (arith, last_fits (goal.at.overflow_cast-start-2 c).At-loop-r)

pub returns : goal.returns
returns c =
    let v = c.given_out-end in
    let i = c.args.self.now.image in
    let t = front_of i in
    let all : c.loop-r.r ≡ v.result.0 = omega (arith, c.loop-r.invariant.0, c.loop-r-test.false) in
    rw (c.fill_u16.ensures, c.start_at-2.ensures)
    (starts_filled i.g t c.loop-r.index (indexed (goal.at.returns c).At-loop-r) v.result.0 c.loop-r.start (omega (arith, v.ensures)) (last_fits (goal.at.returns c).At-loop-r)
    (c.loop-r.invariant.2 ∙ ap (start_of i.g t) all)
    (λ q h. start_given i.g t c.requires.high q (omega (arith, v.ensures)) ∙ sym (ap (start_of i.g t) v.ensures))
    (λ q h. c.loop-r.invariant.3 q (omega arith)))
