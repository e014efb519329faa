-- A Result and the answer that it says tell the same: two Results that say one answer are equal.
use Prim.Native.Nat.{ℕ}
use mathlib.Core.Bool.{cond}
use lib.Dec.{eqb}
use mathlib.Core.Path.{◌≡◌, refl, sym, ◌∙◌, ap}
use Rattle.std.specs.Prelude.{Result, Ok, Err}
use Rattle.paper.specs.declared.Pages.{Pages}
use Rattle.paper.specs.declared.Book.{Book}
use Rattle.paper.specs.declared.Refusal.{Refusal}
use Rattle.paper.specs.declared.Refusal.TheVariants.{GeometryWrong, IndexLength, ImageShort, HeaderWrong, TailMissing, TablesWrong, IndexWrong, Unusable, Beyond, NoRoom, NoRegion, NotBlank, TooFewBlocks, Newer, Stale}
use Rattle.paper.specs.Answers.{Answer, Done, Opened, Refused, no_of, answered, plain, counted, opened_as}

-- the refusal with this number, and some refusal for any other
abbrev refusal_at : ℕ → Refusal
refusal_at n =
    cond (eqb n 1) GeometryWrong
    (cond (eqb n 2) IndexLength
    (cond (eqb n 3) ImageShort
    (cond (eqb n 4) HeaderWrong
    (cond (eqb n 5) TailMissing
    (cond (eqb n 6) TablesWrong
    (cond (eqb n 7) IndexWrong
    (cond (eqb n 8) Unusable
    (cond (eqb n 9) Beyond
    (cond (eqb n 10) NoRoom
    (cond (eqb n 11) NoRegion
    (cond (eqb n 12) NotBlank
    (cond (eqb n 13) TooFewBlocks
    (cond (eqb n 16) Newer Stale)))))))))))))

at_number : (k : Refusal) → refusal_at (no_of k) ≡ k
at_number GeometryWrong = refl
at_number IndexLength = refl
at_number ImageShort = refl
at_number HeaderWrong = refl
at_number TailMissing = refl
at_number TablesWrong = refl
at_number IndexWrong = refl
at_number Unusable = refl
at_number Beyond = refl
at_number NoRoom = refl
at_number NoRegion = refl
at_number NotBlank = refl
at_number TooFewBlocks = refl
at_number Newer = refl
at_number Stale = refl

-- no two refusals have one number
pub one_number : (k j : Refusal) → no_of k ≡ no_of j → k ≡ j
one_number k j e = sym (at_number k) ∙ ap refusal_at e ∙ at_number j

-- the value that an answer says
abbrev value_at : Answer → ℕ
value_at (Done v) = v
value_at (Opened r e) = 0
value_at (Refused k) = k

pub one_plain : (r s : Result (Unit {0}) Refusal) → answered plain r ≡ answered plain s → r ≡ s
one_plain (Ok x) (Ok y) e = refl
one_plain (Ok x) (Err k) e = cc
one_plain (Err k) (Ok y) e = cc
one_plain (Err k) (Err j) e = ap Err (one_number k j (ap value_at e))

pub one_counted : (r s : Result Pages Refusal) → answered counted r ≡ answered counted s → r ≡ s
one_counted (Ok m) (Ok n) e = ap (λ v. Ok (record { 0 = v })) (ap value_at e)
one_counted (Ok m) (Err k) e = cc
one_counted (Err k) (Ok n) e = cc
one_counted (Err k) (Err j) e = ap Err (one_number k j (ap value_at e))

abbrev book_at : Book → Answer → Book
book_at b (Done v) = b
book_at b (Opened r e) = record { region = r; edition = e }
book_at b (Refused k) = b

pub one_opened : (r s : Result Book Refusal) → answered opened_as r ≡ answered opened_as s → r ≡ s
one_opened (Ok b) (Ok c) e = ap (λ a. Ok (book_at b a)) e
one_opened (Ok b) (Err k) e = cc
one_opened (Err k) (Ok b) e = cc
one_opened (Err k) (Err j) e = ap Err (one_number k j (ap value_at e))
