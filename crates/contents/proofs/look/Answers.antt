-- `contents::look` meets its contract: nothing, or the one stretch from the offset on.
use Rattle.std.proofs.Common.{◌≡◌, ℕ, ◌+◌, ◌-◌, ◌*◌, ◌≤◌, length, sym, ◌∙◌, ap, arith}
use Rattle.paper.specs.Image.{front, pages_of}
use Rattle.paper.specs.Outcomes.{lent}
use Rattle.rules.specs.Facts.{Reads}
use Rattle.rules.proofs.Lines.{read_accepted}
use Rattle.rules.proofs.Outcomes.{look_empty, look_part}
use Rattle.rules.proofs.Right.{reads_region}
use Rattle.desk.proofs.Refusing.{not_done}
use Rattle.contents.proofs.Looks.{look_slot, look_fits, look_shows}
use Rattle.contents.proofs.Reading.{read_image, read_index}
use Rattle.contents.proofs.look.Goals as goal
use Rattle.contents.proofs.look.Goals.{After-first_stretch-s, In-Ok}

-- a load of one byte is accepted
reads : (c : In-Ok) → let a = c.args in Reads a.g a.image.now a.index.now a.book.region.0 a.offset.0 1
reads c = (read_accepted _ _ _ _ _ _ _ (sym c.in-Ok.ensures.number)).0

-- the stretch to the end of the book lies in the image
left : (c : After-first_stretch-s)
    → let a = c.args in
    c.book_bytes.result - a.offset.0 ≡ pages_of a.g (front a.g a.image.now) a.book.region.0 * a.g.page - a.offset.0
left c = ap (λ (b : ℕ). b - c.args.offset.0) c.book_bytes.ensures

fits : (c : After-first_stretch-s) → c.first_stretch-s.result.at + c.first_stretch-s.result.bytes ≤ length c.args.image.now
fits c = look_fits _ _ _ _ _ (reads (goal.at.After-first_stretch-s c).In-Ok) _ c.in-Ok.ensures.spot _ (left c) _ c.first_stretch-s.ensures

pub returns-in_default : goal.returns-in_default
returns-in_default c =
    let a = c.args in
    sym (look_empty a.g a.book.region.0 a.book.edition.0 a.offset.0 (lent a.image.now a.index.now) (λ e. not_done _ (c.in_default.ensures.number ∙ e)))

pub invariant_of-now : goal.invariant_of-now
invariant_of-now c = record { readable = read_image _ _ _ _ _ _ _ c.in-Ok.ensures.number }

pub book_bytes-requires : goal.book_bytes-requires
book_bytes-requires c =
    let R = reads (goal.at.book_bytes-requires c).In-Ok in
    record { region_lt_entries = (reads_region _ _ _ _ _ _ R, R.fits) }

pub overflow_sub-left : goal.overflow_sub-left
overflow_sub-left c = let R = reads (goal.at.overflow_sub-left c).In-Ok in omega (arith, R.within)

pub invariant_of-index : goal.invariant_of-index
invariant_of-index c = record { indexed = read_index _ _ _ _ _ _ _ c.in-Ok.ensures.number }

pub first_stretch-s-requires : goal.first_stretch-s-requires
first_stretch-s-requires c =
    let R = reads (goal.at.first_stretch-s-requires c).In-Ok in
    let I = c.in-Ok.ensures.spot in
    (reads_region _ _ _ _ _ _ R, look_slot _ _ _ _ _ R _ I, I.inside)

pub overflow_add-result : goal.overflow_add-result
overflow_add-result c = let h = fits (goal.at.overflow_add-result c).After-first_stretch-s in omega arith

pub slice_bounds-result-end-2 : goal.slice_bounds-result-end-2
slice_bounds-result-end-2 c = let h = fits (goal.at.slice_bounds-result-end-2 c).After-first_stretch-s in omega arith

pub returns : goal.returns
returns c =
    let a = c.args in
    let p = goal.at.returns c in
    look_shows _ _ _ _ _ (reads p.In-Ok) _ c.in-Ok.ensures.spot _ (left p.After-first_stretch-s) _ c.first_stretch-s.ensures
    ∙ sym (look_part a.g a.book.region.0 a.book.edition.0 a.offset.0 (lent a.image.now a.index.now) (sym c.in-Ok.ensures.number))
