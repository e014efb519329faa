-- `books::grow` meets its contract: refused by 1 to 7, by 8, by 18, by 10; or done, by no pages or by some.
use Rattle.std.proofs.Common.{[], sym, ◌∙◌, ap, arith, rules, tests}
use Rattle.std.specs.Prelude.{ℕ}
use borrow.Author.Tests.{leb-true, leb-false}
use Rattle.paper.specs.Answers.{Done}
use Rattle.paper.specs.Calls.{grow}
use Rattle.paper.specs.Outcomes.{lent, gives}
use Rattle.rules.proofs.Usable.{usable_facts}
use Rattle.rules.proofs.Lines.{grow_stop, grow_10, grow_0, refused, grow_done}
use Rattle.desk.proofs.Refusing.{outcome_passed}
use Rattle.desk.proofs.Naming.{grow_named}
use Rattle.books.proofs.Left.{in_order, named, readable, grown_none}
use Rattle.books.proofs.grow.Goals as goal

pub returns-in_err-ordered : goal.returns-in_err-ordered
returns-in_err-ordered c = outcome_passed _ _ _ _ _ _ c.from_residual.ensures.1 c.in_err-ordered.ensures (grow_stop _ _ _ _ _ _)

pub invariant_of-before : goal.invariant_of-before
invariant_of-before c = record { readable = readable _ _ _ (in_order c.in_ok-ordered.ensures) }

pub returns-in_err-name_book : goal.returns-in_err-name_book
returns-in_err-name_book c =
    let O = in_order c.in_ok-ordered.ensures in
    outcome_passed _ _ _ _ _ _ c.from_residual-in_err-name_book.ensures.1 c.in_err-name_book.ensures (grow_named _ _ _ _ _ O _)

pub has_room-requires-clause-formed : goal.has_room-requires-clause-formed
has_room-requires-clause-formed c = (in_order c.in_ok-ordered.ensures).formed

pub has_room-requires-clause-region_value : goal.has_room-requires-clause-region_value
has_room-requires-clause-region_value c = (usable_facts _ _ _ (named _ c.in_ok-name_book.ensures).usable).2

pub returns-then-not-has_room : goal.returns-then-not-has_room
returns-then-not-has_room c =
    let a = c.args in
    let O = in_order c.in_ok-ordered.ensures in
    let b = named _ c.in_ok-name_book.ensures in
    let full = leb-false _ _ (sym c.has_room.ensures ∙ c.if-not-has_room.true) in
    let k = grow_10 a.g a.image.now a.index.now a.book.region.0 a.book.edition.0 a.pages.0 O b full in
    sym (refused a.g (grow a.book.region.0 a.book.edition.0 a.pages.0) (lent a.image.now a.index.now) 10 k (omega arith))

pub pages-old-requires : goal.pages-old-requires
pages-old-requires c =
    let b = named _ c.in_ok-name_book.ensures in
    record { r_lt_entries = omega (arith, (usable_facts _ _ _ b.usable).1) }

pub returns-then-eq : goal.returns-then-eq
returns-then-eq c =
    let a = c.args in
    let O = in_order c.in_ok-ordered.ensures in
    let b = named _ c.in_ok-name_book.ensures in
    let room = leb-true _ _ (sym c.has_room.ensures ∙ c.if-not-has_room.false) in
    let k = grow_0 a.g a.image.now a.index.now a.book.region.0 a.book.edition.0 a.pages.0 O b room in
    let same = grown_none a.g a.image.now a.index.now O a.book.region.0 a.pages.0 (search (rules, tests)) in
    rw c.pages-old.ensures
    (ap (gives _ []) (sym same) ∙ sym (grow_done a.g (lent a.image.now a.index.now) a.book.region.0 a.book.edition.0 a.pages.0 k))

pub extend-requires-clause-growing : goal.extend-requires-clause-growing
extend-requires-clause-growing c = record {
  ordered = in_order c.in_ok-ordered.ensures;
  usable = (named _ c.in_ok-name_book.ensures).usable;
  room = leb-true _ _ (sym c.has_room.ensures ∙ c.if-not-has_room.false);
}

pub returns : goal.returns
returns c =
    let a = c.args in
    let O = in_order c.in_ok-ordered.ensures in
    let b = named _ c.in_ok-name_book.ensures in
    let room = leb-true _ _ (sym c.has_room.ensures ∙ c.if-not-has_room.false) in
    let k = grow_0 a.g a.image.now a.index.now a.book.region.0 a.book.edition.0 a.pages.0 O b room in
    let v = c.extend.new in
    ap (λ (n : ℕ). gives (Done n) [] (lent v.image v.index)) c.pages-old.ensures
    ∙ rw (c.extend.ensures.0, c.extend.ensures.1) (sym (grow_done a.g (lent a.image.now a.index.now) a.book.region.0 a.book.edition.0 a.pages.0 k))
