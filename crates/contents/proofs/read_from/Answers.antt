-- `contents::read_from` meets its contract: a law for each return.
use Rattle.std.proofs.Common.{◌≡◌, ◌+◌, ◌*◌, ◌<◌, ◌≤◌, sym, ◌∙◌, arith}
use borrow.Author.Tests.{ltb-true, ltb-false}
use Rattle.paper.specs.Geometry.{most_book_pages}
use Rattle.paper.specs.Image.{pages_of}
use Rattle.paper.specs.Refusals.{touched_right}
use Rattle.paper.proofs.Arithmetic.{book_bytes_bound}
use Rattle.rules.specs.Facts.{Entered, IsBook}
use Rattle.rules.proofs.Usable.{usable_facts}
use Rattle.rules.proofs.Lines.{entered_shown, book_shown, read_stop, read_book, read_9, read_7, read_0}
use Rattle.image.specs.Views.{front_of}
use Rattle.stretches.specs.Stretch.{IsSpot}
use Rattle.stretches.proofs.Walks.{spot_offset}
use Rattle.desk.proofs.Refusing.{number_passed}
use Rattle.contents.proofs.Reading.{lent_entered, lent_number}
use Rattle.contents.proofs.read_from.Goals as goal
use Rattle.contents.proofs.read_from.Goals.{In_ok-lent, In_ok-check_book, Else-beyond, After-spot-spot, After-touched_right}

-- what each test has shown
entered : (c : In_ok-lent) → let l = c.in_ok-lent.lent in Entered l.image.g l.image.bytes.now l.index.bytes.now
entered c = lent_entered c.in_ok-lent.ensures.lent c.in_ok-lent.ensures.number

book : (c : In_ok-check_book)
    → let i = c.in_ok-lent.lent.image in
    let b = c.args.book in
    IsBook i.g (front_of i) b.region.0 b.edition.0 × (pages_of i.g (front_of i) b.region.0 ≤ most_book_pages i.g)
book c = book_shown _ _ _ _ (sym c.in_ok-check_book.ensures)

inside : (c : In_ok-check_book) → c.args.book.region.0 < c.in_ok-lent.lent.image.g.entries
inside c = let i = c.in_ok-lent.lent.image in omega (arith, (usable_facts i.g (front_of i) c.args.book.region.0 (book c).0.usable).1)

within : (c : Else-beyond)
    → let i = c.in_ok-lent.lent.image in
    c.args.offset.0 + c.args.n ≤ pages_of i.g (front_of i) c.args.book.region.0 * i.g.page
within c = ltb-false _ _ (sym c.beyond.ensures ∙ c.if-beyond.false)

-- the offset turned, and the positions from there
turned : (c : After-spot-spot) → IsSpot c.in_ok-lent.lent.image.g c.args.offset.0 c.spot-spot.result
turned c =
    rw c.in_ok-lent.ensures.lent.of_image.geometry
    (spot_offset _ (entered_shown _ _ _ (sym c.in_ok-lent.ensures.number)).geometry _ _ c.spot-spot.ensures)

touched : (c : After-touched_right)
    → let l = c.in_ok-lent.lent in
    c.touched_right.result ≡ touched_right l.image.g (front_of l.image) l.index.bytes.now c.args.book.region.0 c.args.offset.0 c.args.n
touched c = rw (turned (goal.at.After-touched_right c).After-spot-spot).offset at c.touched_right.ensures

pub returns-in_err-lent-clause-number : goal.returns-in_err-lent-clause-number
returns-in_err-lent-clause-number c = number_passed _ _ c.from_residual.ensures.1 c.in_err-lent.ensures.number (read_stop _ _ _ _ _ _ _)

pub returns-in_err-check_book-clause-number : goal.returns-in_err-check_book-clause-number
returns-in_err-check_book-clause-number c = number_passed _ _ c.from_residual-in_err-check_book.ensures.1 c.in_err-check_book.ensures
    (λ k e ne. sym (lent_number c.in_ok-lent.ensures.lent _ _ _ _ (read_book _ _ _ _ _ _ _ (entered (goal.at.returns-in_err-check_book-clause-number c).In_ok-lent) k e ne)))

pub beyond-requires : goal.beyond-requires
beyond-requires c =
    let p = (goal.at.beyond-requires c).In_ok-check_book in
    record { region_lt_entries = (inside p, (book p).1) }

pub returns-then-beyond-clause-number : goal.returns-then-beyond-clause-number
returns-then-beyond-clause-number c =
    let p = goal.at.returns-then-beyond-clause-number c in
    let b = book p.In_ok-check_book in
    lent_number c.in_ok-lent.ensures.lent _ _ _ _
    (read_9 _ _ _ _ _ _ _ (entered p.In_ok-lent) b.0 b.1 (ltb-true _ _ (sym c.beyond.ensures ∙ c.if-beyond.true)))

pub touched_right-requires-clause-entered : goal.touched_right-requires-clause-entered
touched_right-requires-clause-entered c =
    let p = goal.at.touched_right-requires-clause-entered c in
    (entered p.In_ok-lent, inside p.In_ok-check_book)

pub touched_right-requires-clause-within_bound : goal.touched_right-requires-clause-within_bound
touched_right-requires-clause-within_bound c =
    let p = goal.at.touched_right-requires-clause-within_bound c in
    let I = turned p.After-spot-spot in
    let i = c.in_ok-lent.lent.image in
    let small = book_bytes_bound i.g (pages_of i.g (front_of i) c.args.book.region.0) (entered p.In_ok-lent).geometry (book p.In_ok-check_book).1 in
    (I.inside, rw I.offset (omega (arith, within p.Else-beyond)))

pub returns-then-not-touched_right-clause-number : goal.returns-then-not-touched_right-clause-number
returns-then-not-touched_right-clause-number c =
    let p = goal.at.returns-then-not-touched_right-clause-number c in
    let b = book p.In_ok-check_book in
    lent_number c.in_ok-lent.ensures.lent _ _ _ _
    (read_7 _ _ _ _ _ _ _ (entered p.In_ok-lent) b.0 b.1 (within p.Else-beyond) (sym (touched p.After-touched_right) ∙ c.if-not-touched_right.true))

pub returns-clause-number : goal.returns-clause-number
returns-clause-number c =
    let p = goal.at.returns-clause-number c in
    let b = book p.In_ok-check_book in
    lent_number c.in_ok-lent.ensures.lent _ _ _ _
    (read_0 _ _ _ _ _ _ _ (record {
      entered = entered p.In_ok-lent;
      usable = b.0.usable;
      fits = b.1;
      within = within p.Else-beyond;
      right = sym (touched p.After-touched_right) ∙ c.if-not-touched_right.false;
    }) b.0.edition)

pub returns-clause-spot : goal.returns-clause-spot
returns-clause-spot c = rw (← c.in_ok-lent.ensures.lent.of_image.geometry) (turned (goal.at.returns-clause-spot c).After-spot-spot)
