-- `books::zero_new` meets its contract: the loop walks the bytes of the new pages, in blocks that the grown book will have.
use Prim.Native.Nat.{ℕ, ◌-◌, ◌*◌, ◌<◌}
use mathlib.Core.Path.{◌≡◌, refl, ◌∙◌, ap}
use mathlib.Core.List.{List}
use lib.ListN.{length, length-replicate}
use Rattle.laws.proofs.Lists.{zeros, zeros_part}
use Rattle.paper.specs.declared.Geometry.{Geometry}
use Rattle.paper.specs.Image.{front, pages_of, need_of}
use Rattle.paper.specs.Calls.{grown_front, stored}
use Rattle.paper.proofs.Arithmetic.{book_bytes_bound}
use Rattle.rules.specs.Touched.{end_touched}
use Rattle.stretches.specs.Stretch.{in_block, IsSpot, IsStep}
use Rattle.stretches.proofs.Walks.{spot_offset, spot_bounded, spot_first, walk_start, walk_end, walk_in, walk_inside, same_step, step_on, step_written, written_none, written_all}
use Rattle.tables.specs.Grant.{block_after, stock_of}
use Rattle.tables.proofs.Spare.{stock_is}
use Rattle.books.proofs.Growing.{findable, block_inside, pages_most, bytes_most, last_touched, zeros_found}
use native.Mathlib.Omega.{arith}
use Rattle.books.proofs.zero_new.Goals as goal
use Rattle.books.proofs.zero_new.Goals.{After-take_stock-s, After-spot, In-Some}

-- the first byte of the new pages
abbrev first : Geometry → List ℕ → ℕ → ℕ
first g image r = pages_of g (front g image) r * g.page

-- the stock is that of the tables before
taken_from : (c : After-take_stock-s) → c.take_stock-s.result ≡ stock_of c.args.index.now.g (front c.args.index.now.g c.args.image.now) c.args.region.0
taken_from c = stock_is _ _ _ _ c.take_stock-s.ensures

-- the new pages' first byte turned
turned : (c : After-spot) → IsSpot c.args.index.now.g (first c.args.index.now.g c.args.image.now c.args.region.0) c.spot.result
turned c =
    let from = c.first_new.ensures ∙ ap (λ k. k * c.args.index.now.g.page) c.requires.value in
    rw from at (spot_offset c.args.index.now.g c.requires.growing.ordered.geometry _ c.spot.result c.spot.ensures)

-- a step of the walk, and its position as one of the grown book's
step : (c : In-Some)
    → let x = c.loop-at.at-iterator in
    let y = c.next.new.self in
    IsStep c.args.index.now.g x.at x.left c.in-Some.at c.in-Some.bytes y.at y.left
step c = same_step c.loop-at.invariant.geometry c.in-Some.ensures.steps.0

in_book : (c : In-Some)
    → let g = c.args.index.now.g in
    c.in-Some.at.position.0 < need_of g (grown_front g c.args.region.0 c.args.pages.0 (front g c.args.image.now)) c.args.region.0
in_book c =
    let W = c.requires.growing in
    let S = step c in
    let hi = walk_in W.ordered.geometry c.loop-at.invariant.walk S.some in
    rw S.from (omega (arith, hi, last_touched _ _ _ _ _ W))

pub overflow_mul-n : goal.overflow_mul-n
overflow_mul-n c =
    let W = c.requires.growing in
    let h = pages_most _ _ _ _ _ W in
    record { fits = omega (arith, book_bytes_bound _ c.args.pages.0 W.ordered.geometry (omega arith)) }

pub first_new-requires : goal.first_new-requires
first_new-requires c =
    let W = c.requires.growing in
    let h = pages_most _ _ _ _ _ W in
    omega (arith, book_bytes_bound _ c.args.old.0 W.ordered.geometry (omega (arith, c.requires.value)))

pub invariant_of-at-items : goal.invariant_of-at-items
invariant_of-at-items c =
    let W = c.requires.growing in
    let I = turned (goal.at.invariant_of-at-items c).After-spot in
    record { bounded = (W.ordered.geometry, I.inside, spot_bounded _ W.ordered.geometry I (bytes_most _ _ _ _ _ W)) }

pub loop-at-init : goal.loop-at-init
loop-at-init c =
    let g = c.args.index.now.g in
    let n = c.args.pages.0 * g.page in
    let at = c.spot.result in
    let I = turned (goal.at.loop-at-init c).After-spot in
    rw c.into_iter-at-iterator.ensures.into_iter_gives (record {
      geometry = refl;
      walk = rw I.offset at (walk_start g at I.inside n);
      written = written_none g (block_after g c.args.index.now.bytes.now c.args.region.0 c.take_stock-s.result) _ (zeros n) c.args.image.now at.position.0
          (rw I.offset at (spot_first g at I.inside));
    })

pub block_after-b-requires : goal.block_after-b-requires
block_after-b-requires c =
    let p = goal.at.block_after-b-requires c in
    rw (taken_from p.After-take_stock-s) (findable _ _ _ _ _ c.requires.growing c.in-Some.at.position.0 (in_book p.In-Some))

pub zero_at-requires : goal.zero_at-requires
zero_at-requires c =
    let W = c.requires.growing in
    let p = goal.at.zero_at-requires c in
    let S = step p.In-Some in (
      W.ordered.geometry,
      rw S.from (walk_inside W.ordered.geometry c.loop-at.invariant.walk S.some),
      rw (c.block_after-b.ensures, taken_from p.After-take_stock-s, c.loop-at.auto.image)
          (block_inside _ _ _ _ _ W c.in-Some.at.position.0 (in_book p.In-Some)),
    )

pub loop-at-preserved : goal.loop-at-preserved
loop-at-preserved c =
    let x = c.loop-at in
    let g = c.args.index.now.g in
    let A = c.requires.growing.ordered.geometry in
    let S = step (goal.at.loop-at-preserved c).In-Some in
    let n = c.args.pages.0 * g.page in
    let at = block_after g c.args.index.now.bytes.now c.args.region.0 c.take_stock-s.result in
    let part = zeros_part (n - x.at-iterator.left) c.in-Some.bytes n (omega (arith, S.bytes, x.invariant.walk.rest)) in
    let whole : in_block g c.in-Some.at c.in-Some.bytes ≡ c.in-Some.bytes = rw S.from (omega (arith, S.bytes)) in
    record {
      geometry = c.in-Some.ensures.steps.1 ∙ x.invariant.geometry;
      walk = step_on x.invariant.walk S A;
      written = step_written g at _ (zeros n) c.args.image.now A (length-replicate n 0) x.invariant.walk S x.invariant.written refl refl
          (rw (c.block_after-b.ensures, whole, ← part) at c.zero_at.ensures.1);
    }

pub returns : goal.returns
returns c =
    let g = c.args.index.now.g in
    let i = c.args.image.now in
    let index = c.args.index.now.bytes.now in
    let r = c.args.region.0 in
    let pages = c.args.pages.0 in
    let n = pages * g.page in
    let x = c.loop-at in
    let W = c.requires.growing in
    let A = W.ordered.geometry in
    let o = first g i r in
    let need = need_of g (grown_front g r pages (front g i)) r in
    let e : x.at-iterator.at.position.0 ≡ end_touched g o (length (zeros n)) = rw length-replicate (walk_end A x.invariant.walk c.in-None.ensures.steps) in
    (rw e at x.invariant.written)
    ∙ written_all g (block_after g index r c.take_stock-s.result) o (zeros n) i A need
    (rw length-replicate (last_touched g i index r pages W))
    ∙ ap (λ q. stored g (block_after g index r q) need o (zeros n) i) (taken_from (goal.at.returns c).After-take_stock-s)
    ∙ zeros_found g i index r pages W
