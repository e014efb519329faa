-- `recovery::ordered` meets its contract: a law for each return.
use Rattle.std.proofs.Common.{sym, ◌∙◌}
use Rattle.rules.proofs.Lines.{entered_shown, ordered_stop}
use Rattle.recovery.proofs.Refused.{order_0, order_7}
use Rattle.desk.proofs.Refusing.{number_passed}
use Rattle.recovery.proofs.ordered.Goals as goal

pub returns-in_err-lent : goal.returns-in_err-lent
returns-in_err-lent c = number_passed _ _ c.from_residual.ensures.1 c.in_err-lent.ensures.number (ordered_stop _ _ _)

pub vouched-requires : goal.vouched-requires
vouched-requires c =
    let I = c.in_ok-lent.ensures.lent.of_image in
    record { image_bound = rw (I.geometry, I.lent) (entered_shown _ _ _ (sym c.in_ok-lent.ensures.number)).header.taken_most }

pub invariant_of-in_order : goal.invariant_of-in_order
invariant_of-in_order c =
    let I = c.in_ok-lent.ensures.lent.of_image in
    record { header = rw (I.geometry, I.lent) (entered_shown _ _ _ (sym c.in_ok-lent.ensures.number)).header }

pub returns-then-vouched : goal.returns-then-vouched
returns-then-vouched c =
    let L = c.in_ok-lent.ensures.lent in
    let E = entered_shown _ _ _ (sym c.in_ok-lent.ensures.number) in
    sym (order_0 _ _ _ E (λ i. (c.type_inv.index i).fits) (sym (rw (L.of_image.geometry, L.of_image.lent, L.of_index) at c.vouched.ensures) ∙ c.if-vouched.true))

pub returns : goal.returns
returns c =
    let L = c.in_ok-lent.ensures.lent in
    let E = entered_shown _ _ _ (sym c.in_ok-lent.ensures.number) in
    let unvouched = sym (rw (L.of_image.geometry, L.of_image.lent, L.of_index) at c.vouched.ensures) ∙ c.if-vouched.false in
    sym (order_7 _ _ _ E (λ i. (c.type_inv.index i).fits) unvouched (sym (rw (L.of_image.geometry, L.of_image.lent) at c.in_order.ensures) ∙ c.if-not-in_order.false))
