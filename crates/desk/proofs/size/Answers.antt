-- `desk::size` meets its contract.
use Rattle.std.proofs.Common.{sym, ◌∙◌, arith}
use Rattle.rules.proofs.Usable.{usable_facts}
use Rattle.rules.proofs.Lines.{whole_shown, book_shown, size_stop, size_on}
use Rattle.desk.proofs.Refusing.{outcome_left, outcome_passed}
use Rattle.desk.proofs.size.Goals as goal

pub returns-in_err-image : goal.returns-in_err-image
returns-in_err-image c = outcome_passed _ _ _ _ _ _ c.from_residual.ensures.1 c.in_err-image.ensures.number (size_stop _ _ _ _ _)

pub returns-in_err-check_book : goal.returns-in_err-check_book
returns-in_err-check_book c =
    let I = c.in_ok-image.ensures.image in
    let W = whole_shown _ _ (sym c.in_ok-image.ensures.number) in
    let k = rw (I.geometry, I.lent) at c.in_err-check_book.ensures in
    outcome_left _ _ _ _ _ _ c.from_residual-in_err-check_book.ensures.1 (size_on _ _ _ _ _ W ∙ sym k)

pub pages-requires : goal.pages-requires
pages-requires c =
    let b = book_shown _ _ _ _ (sym c.in_ok-check_book.ensures) in
    record { r_lt_entries = omega (arith, (usable_facts _ _ _ b.0.usable).1) }
