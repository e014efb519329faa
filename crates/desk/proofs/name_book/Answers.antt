-- `desk::name_book` meets its contract.
use Rattle.std.proofs.Common.{sym, ◌∙◌, arith}
use Rattle.rules.proofs.Usable.{usable_facts}
use Rattle.desk.proofs.name_book.Goals as goal

pub is_edition-requires : goal.is_edition-requires
is_edition-requires c = record { region_lt_entries = omega (arith, (usable_facts _ _ _ (sym c.usable.ensures ∙ c.if-not-usable.false)).1) }
