-- `tables::release_tables` meets its contract: the three writes are one front, and until the last no edition changes.
use Prim.Native.Nat.{ℕ, ◌+◌, ◌*◌, ◌≤◌, ◌<◌}
use mathlib.Core.Path.{◌≡◌, ◌∙◌, ap₂}
use mathlib.Core.List.{List}
use Rattle.laws.specs.Folds.{steps}
use Rattle.paper.specs.Geometry.{reclaimed, last_edition}
use Rattle.paper.specs.Image.{front, taken, edition_of, set_pages, set_not_open}
use Rattle.paper.specs.Calls.{released, reclaiming}
use Rattle.paper.proofs.Arithmetic.{pages_bound}
use Rattle.rules.specs.Facts.{fronted}
use Rattle.rules.proofs.Facts.{open_below}
use Rattle.rules.proofs.Cells.{length_front}
use Rattle.rules.proofs.Fronts.{front_fits, front_is, then}
use Rattle.tables.proofs.Releasing.{both_fit, editions_kept}
use native.Mathlib.Omega.{arith}
use Rattle.tables.proofs.release_tables.Goals as goal
use Rattle.tables.proofs.release_tables.Goals.{After-need-more, After-set_pages}

-- the blocks of both, the reclaimed and the region's
both : (c : After-need-more) → c.need-spare.result + c.need-more.result ≤ c.args.g.blocks
both c =
    let a = c.args in
    let fit = both_fit a.g (front a.g a.image.now) a.region.0 c.requires.readable.allowed c.requires.releasable in
    omega (arith, fit, c.need-more.ensures, c.need-spare.ensures)

-- and their pages
few : (c : After-need-more) → (c.need-spare.result + c.need-more.result) * c.args.g.pages ≤ 8388608
few c = pages_bound c.args.g c.requires.readable.allowed (c.need-spare.result + c.need-more.result) (both c)

-- the front before the last write, with n pages for region 1
abbrev reclaimed_front : After-set_pages → ℕ → List ℕ
reclaimed_front c n =
    let a = c.args in
    let t = front a.g a.image.now in
    set_pages a.g reclaimed n (steps (taken a.g t) (reclaiming a.g t a.region.0 c.need-spare.result) t)

abbrev Written : After-set_pages → ℕ → Type 0
Written c n =
    let one = c.reclaim_blocks.new.image in
    c.set_pages.new.image ≡ fronted c.args.g (set_pages c.args.g reclaimed n (front c.args.g one)) one

is_reclaimed : (c : After-set_pages) (n : ℕ) → Written c n → c.set_pages.new.image ≡ fronted c.args.g (reclaimed_front c n) c.args.image.now
is_reclaimed c n written =
    let a = c.args in
    let t = front a.g a.image.now in
    let w = c.reclaim_blocks in
    then a.g a.image.now w.new.image (steps (taken a.g t) (reclaiming a.g t a.region.0 c.need-spare.result) t) c.requires.readable
    w.auto.image w.ensures (set_pages a.g reclaimed n) c.set_pages.new.image written

-- the region's edition is still what it was, so that it can be raised
current : (c : After-set_pages) (n : ℕ) → Written c n → edition_of c.args.g (front c.args.g c.set_pages.new.image) c.args.region.0 < last_edition
current c n written =
    let a = c.args in
    let R = c.requires.readable in
    let S = c.requires.releasable in
    let t = front a.g a.image.now in
    let kept = editions_kept a.g t (length_front a.g a.image.now (front_fits a.g a.image.now R)) R.allowed a.region.0 c.need-spare.result n
    (taken a.g t) S.bound a.region.0 in
    let e = front_is a.g a.image.now c.set_pages.new.image (reclaimed_front c n) R (c.set_pages.auto.image ∙ c.reclaim_blocks.auto.image)
    (is_reclaimed c n written) in
    rw (e, kept) (S.rules.editions.current a.region.0 S.opened)

pub overflow_add-n : goal.overflow_add-n
overflow_add-n c = record { fits = omega (arith, both (goal.at.overflow_add-n c).After-need-more, c.requires.readable.allowed.blocks_most) }

pub overflow_mul-n : goal.overflow_mul-n
overflow_mul-n c = record { fits = omega (arith, few (goal.at.overflow_mul-n c).After-need-more) }

pub set_pages-requires-clause-r_lt_entries : goal.set_pages-requires-clause-r_lt_entries
set_pages-requires-clause-r_lt_entries c = (
  omega (arith, c.requires.readable.allowed.entries_least),
  omega (arith, few (goal.at.set_pages-requires-clause-r_lt_entries c).After-need-more),
)

pub set_not_open-requires-clause-r_lt_entries : goal.set_not_open-requires-clause-r_lt_entries
set_not_open-requires-clause-r_lt_entries c = (
  open_below c.args.g (front c.args.g c.args.image.now) c.args.region.0 c.requires.releasable.opened,
  current (goal.at.set_not_open-requires-clause-r_lt_entries c).After-set_pages _ c.set_pages.ensures,
)

pub returns : goal.returns
unfolding released
returns c =
    let a = c.args in
    let t = front a.g a.image.now in
    let n = (c.need-spare.result + c.need-more.result) * a.g.pages in
    let v = c.set_pages in
    let z = c.set_not_open in
    let two = (goal.at.returns c).After-set_pages in
    then a.g a.image.now v.new.image (reclaimed_front two n) c.requires.readable (v.auto.image ∙ c.reclaim_blocks.auto.image)
    (is_reclaimed two n v.ensures) (set_not_open a.g a.region.0) z.new.image z.ensures
    ∙ ap₂ (λ (k m : ℕ). fronted a.g
    (set_not_open a.g a.region.0 (set_pages a.g reclaimed ((k + m) * a.g.pages) (steps (taken a.g t) (reclaiming a.g t a.region.0 k) t)))
    a.image.now)
    c.need-spare.ensures c.need-more.ensures
