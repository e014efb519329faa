-- Every book below `r` fits, and `left` is what their needs leave of N.
use Prim.Native.Nat.{◌<◌}
use mathlib.Core.Path.{◌≡◌, sym, ◌∙◌}
use borrow.Author.Tests.{lt-leb, le-leb}
use Rattle.laws.specs.Folds.{all_below}
use Rattle.laws.proofs.Tests.{and_false_left, and_false_right}
use Rattle.laws.proofs.Folds.{all_none, all_more, not_all, sum_none, sum_more}
use Rattle.paper.specs.Geometry.{most_book_pages}
use Rattle.paper.specs.Image.{pages_of, need_of}
use Rattle.paper.specs.WellFormed.{fits, rule_c}
use Rattle.rules.specs.Given.{given}
use Rattle.rules.proofs.Sentences.{fits_read, start_given, fits_given, rule_c-short, rule_c_end}
use Rattle.image.specs.Views.{front_of}
use Rattle.image.proofs.Orders.{below, not_below}
use native.Mathlib.Omega.{arith}
use Rattle.image.proofs.Image.books_in_order.Goals as goal
use Rattle.image.proofs.Image.books_in_order.Goals.{In-loop-r}

-- the region looked at is one
inside : (c : In-loop-r) → c.loop-r.r < c.args.self.now.g.entries
inside c = omega (arith, c.given_out-r-end.ensures)

pub loop-r-init : goal.loop-r-init
loop-r-init c =
    let i = c.args.self.now in
    (omega arith, omega (arith, sum_none (need_of i.g (front_of i)), c.taken-left.ensures), all_none _)

pub returns-then-lt : goal.returns-then-lt
returns-then-lt c =
    let i = c.args.self.now in
    let t = front_of i in
    let l = inside (goal.at.returns-then-lt c).In-loop-r in
    let one = fits_read i.g t c.loop-r.r l ∙ lt-leb (pages_of i.g t c.loop-r.r) (most_book_pages i.g) (omega (arith, below c.most_book_pages-most.result.0 c.pages.result.0 (sym c.if-lt.ensures))) in
    sym (and_false_left (rule_c i.g t) (not_all i.g.entries (fits i.g t) c.loop-r.r l one))

pub returns-then-left-n : goal.returns-then-left-n
returns-then-left-n c =
    let i = c.args.self.now in
    let t = front_of i in
    sym (and_false_right (all_below i.g.entries (fits i.g t)) (rule_c-short i.g t c.loop-r.left c.loop-r.r (inside (goal.at.returns-then-left-n c).In-loop-r) c.loop-r.invariant.1 (omega arith)))

pub loop-r-preserved : goal.loop-r-preserved
loop-r-preserved c =
    let i = c.args.self.now in
    let t = front_of i in
    let one = fits_read i.g t c.loop-r.r (inside (goal.at.loop-r-preserved c).In-loop-r) ∙ le-leb (pages_of i.g t c.loop-r.r) (most_book_pages i.g) (omega (arith, not_below c.most_book_pages-most.result.0 c.pages.result.0 (sym c.if-lt.ensures))) in
    (omega arith, omega (arith, sum_more c.loop-r.r (need_of i.g t)), all_more c.loop-r.r (fits i.g t) c.loop-r.invariant.2 one)

pub returns : goal.returns
returns c =
    let i = c.args.self.now in
    let t = front_of i in
    let e : c.loop-r.r ≡ given i.g t = omega (arith, c.given_out-r-end.ensures) in
    let sum = start_given i.g t c.requires.high i.g.entries (omega arith) in
    let fit = fits_given i.g t c.requires.high (rw e at c.loop-r.invariant.2) in
    rule_c_end i.g t c.loop-r.left (omega (arith, sum, rw e at c.loop-r.invariant.1)) ∙ sym (rw fit)
