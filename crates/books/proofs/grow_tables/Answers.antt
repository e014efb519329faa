-- `books::grow_tables` meets its contract: the grants and then the page count are the grown front.
use Prim.Native.Nat.{◌+◌, ◌-◌, ◌≤◌}
use mathlib.Core.Path.{◌≡◌, refl, ◌∙◌, ap}
use Rattle.laws.specs.Folds.{steps}
use Rattle.paper.specs.Geometry.{need}
use Rattle.paper.specs.Image.{front, set_pages}
use Rattle.paper.specs.Calls.{new_blocks}
use Rattle.paper.proofs.Arithmetic.{book_pages_bound}
use Rattle.rules.proofs.Fronts.{then}
use Rattle.tables.specs.Grant.{stock_of, placed}
use Rattle.books.proofs.Left.{readable}
use Rattle.books.proofs.Growing.{inside, need_up, each_grantable, placed_front, pages_most}
use native.Mathlib.Omega.{arith}
use Rattle.books.proofs.grow_tables.Goals as goal
use Rattle.books.proofs.grow_tables.Goals.{After-pages-old, After-need-2}

-- the new page count is small
few : (c : After-pages-old) → c.pages-old.result.0 + c.args.pages.0 ≤ 8388608
few c = omega (arith, c.pages-old.ensures, pages_most _ _ _ _ _ c.requires, book_pages_bound _ c.requires.ordered.geometry)

-- the blocks that are granted are those by which the need grows
granted : (c : After-need-2)
    → c.need.result - c.need-2.result ≡ new_blocks c.args.index.now.g c.args.region.0 c.args.pages.0 (front c.args.index.now.g c.args.image.now)
granted c = rw (c.need.ensures, c.need-2.ensures, c.pages-old.ensures) refl

pub pages-old-requires : goal.pages-old-requires
pages-old-requires c = record { r_lt_entries = inside _ _ _ _ _ c.requires }

pub overflow_add-new : goal.overflow_add-new
overflow_add-new c = record { fits = omega (arith, few (goal.at.overflow_add-new c).After-pages-old) }

pub overflow_sub-more : goal.overflow_sub-more
overflow_sub-more c =
    let g = c.args.index.now.g in
    let e = ap (need g) c.pages-old.ensures in
    let d = ap (λ k. need g (k + c.args.pages.0)) c.pages-old.ensures in
    omega (arith, need_up _ _ _ _ _ c.requires, e, d, c.need.ensures, c.need-2.ensures)

pub grant_blocks-requires-clause-by_index : goal.grant_blocks-requires-clause-by_index
grant_blocks-requires-clause-by_index c =
    λ i h. each_grantable _ _ _ _ _ c.requires i (omega (arith, h, granted (goal.at.grant_blocks-requires-clause-by_index c).After-need-2))

pub set_pages-requires-clause-r_lt_entries : goal.set_pages-requires-clause-r_lt_entries
set_pages-requires-clause-r_lt_entries c =
    (inside _ _ _ _ _ c.requires, omega (arith, few (goal.at.set_pages-requires-clause-r_lt_entries c).After-pages-old))

pub returns : goal.returns
returns c =
    let a = c.args in
    let g = a.index.now.g in
    let t = front g a.image.now in
    let r = a.region.0 in
    let w = c.grant_blocks in
    let v = c.set_pages in
    let p = c.pages-old in
    then g a.image.now w.new.image (steps (new_blocks g r a.pages.0 t) (placed g a.index.now.bytes.now r (stock_of g t r)) t)
    (readable g a.image.now a.index.now.bytes.now c.requires.ordered) w.auto.image (rw (granted (goal.at.returns c).After-need-2) at w.ensures)
    (set_pages g r (p.result.0 + a.pages.0)) v.new.image v.ensures
    ∙ rw (p.ensures, placed_front g a.image.now a.index.now.bytes.now r a.pages.0 c.requires)
