-- `books::release` meets its contract: refused by 1 to 7, by 8, by 18, or done.
use Rattle.std.proofs.Common.{sym, ◌∙◌, rules, tests, length}
use Rattle.paper.specs.Answers.{Done}
use Rattle.paper.specs.Geometry.{capacity}
use Rattle.paper.specs.Image.{front}
use Rattle.paper.specs.Calls.{released}
use Rattle.paper.specs.Outcomes.{lent}
use Rattle.rules.proofs.Lines.{release_stop, release_0, release_done}
use Rattle.keeping.proofs.Release.{released_as}
use Rattle.desk.proofs.Refusing.{outcome_passed}
use Rattle.desk.proofs.Naming.{release_named}
use Rattle.books.proofs.Left.{in_order, named, readable, indexed, releasable, writable, left_tabled}
use Rattle.books.proofs.release.Goals as goal

pub returns-in_err-ordered : goal.returns-in_err-ordered
returns-in_err-ordered c = outcome_passed _ _ _ _ _ _ c.from_residual.ensures.1 c.in_err-ordered.ensures (release_stop _ _ _ _ _)

pub invariant_of-before : goal.invariant_of-before
invariant_of-before c = record { readable = readable _ _ _ (in_order c.in_ok-ordered.ensures) }

pub returns-in_err-name_book : goal.returns-in_err-name_book
returns-in_err-name_book c =
    let O = in_order c.in_ok-ordered.ensures in
    outcome_passed _ _ _ _ _ _ c.from_residual-in_err-name_book.ensures.1 c.in_err-name_book.ensures (release_named _ _ _ _ _ O (search (rules, tests)))

pub release_tables-requires-clause-releasable : goal.release_tables-requires-clause-releasable
release_tables-requires-clause-releasable c =
    let O = in_order c.in_ok-ordered.ensures in
    let b = named _ c.in_ok-name_book.ensures in
    releasable _ _ _ O _ (search (rules, tests)) b.usable

pub index_anew-requires-clause-indexed : goal.index_anew-requires-clause-indexed
index_anew-requires-clause-indexed c = indexed _ _ _ (in_order c.in_ok-ordered.ensures)

pub index_anew-requires-clause-formed : goal.index_anew-requires-clause-formed
index_anew-requires-clause-formed c =
    let a = c.args in
    let r = a.book.region.0 in
    let t = front a.g a.image.now in
    let O = in_order c.in_ok-ordered.ensures in
    let b = named _ c.in_ok-name_book.ensures in
    let R = releasable _ _ _ O r (search (rules, tests)) b.usable in
    let w = c.release_tables in
    (writable a.g a.image.now a.index.now w.new.image (released a.g r t) O w.auto.image w.ensures
    (released_as a.g O.geometry (capacity a.g (length a.image.now)) t O.formed r R.opened R.least).formed).1

pub returns : goal.returns
returns c =
    let a = c.args in
    let r = a.book.region.0 in
    let O = in_order c.in_ok-ordered.ensures in
    let b = named _ c.in_ok-name_book.ensures in
    let k = release_0 a.g a.image.now a.index.now r a.book.edition.0 O b.usable (search (rules, tests)) b.edition in
    let w = c.release_tables in
    left_tabled a.g a.image.now w.new.image (released a.g r (front a.g a.image.now)) (readable a.g a.image.now a.index.now O) w.auto.image
    w.ensures (Done 0) c.index_anew.new.index c.index_anew.ensures
    ∙ sym (release_done a.g (lent a.image.now a.index.now) r a.book.edition.0 k)
