-- `desk::check_book` meets its contract.
use Rattle.std.proofs.Common.{sym, arith}
use Rattle.rules.proofs.Usable.{usable_facts}
use Rattle.rules.proofs.Lines.{name_shown, book_stop}
use Rattle.desk.proofs.Refusing.{number_passed}
use Rattle.desk.proofs.check_book.Goals as goal

pub returns-in_err-name_book : goal.returns-in_err-name_book
returns-in_err-name_book c = number_passed _ _ c.from_residual.ensures.1 c.in_err-name_book.ensures (book_stop _ _ _ _)

pub pages-requires : goal.pages-requires
pages-requires c =
    let b = name_shown _ _ _ _ (sym c.in_ok-name_book.ensures) in
    record { r_lt_entries = omega (arith, (usable_facts _ _ _ b.usable).1) }
