-- `books::open` meets its contract: refused by 1 to 7, refused by 11, or done.
use Rattle.std.proofs.Common.{[], sym, ◌∙◌, ap, ap₂, arith, length}
use Rattle.std.specs.Prelude.{ℕ, ◌<◌}
use Rattle.paper.specs.Geometry.{no_region, capacity}
use Rattle.paper.specs.Image.{front, edition_of}
use Rattle.paper.specs.Calls.{«open», next_region, opened}
use Rattle.paper.specs.Outcomes.{opening, lent, gives, tabled}
use Rattle.rules.proofs.Lines.{open_stop, open_11, open_0, refused, open_done}
use Rattle.keeping.proofs.Open.{open_next}
use Rattle.desk.proofs.Refusing.{outcome_passed}
use Rattle.books.proofs.Left.{in_order, readable, left_standing}
use Rattle.books.proofs.open.Goals as goal

pub returns-in_err-ordered : goal.returns-in_err-ordered
returns-in_err-ordered c = outcome_passed _ _ _ _ _ _ c.from_residual.ensures.1 c.in_err-ordered.ensures (open_stop _ _ _)

pub invariant_of-before : goal.invariant_of-before
invariant_of-before c = record { readable = readable _ _ _ (in_order c.in_ok-ordered.ensures) }

pub returns-in_default : goal.returns-in_default
returns-in_default c =
    let a = c.args in
    let O = in_order c.in_ok-ordered.ensures in
    let k = open_11 a.g a.image.now a.index.now O (omega (arith, c.in_default.ensures.number)) in
    sym (refused a.g «open» (lent a.image.now a.index.now) 11 k (omega arith))

pub returns : goal.returns
returns c =
    let a = c.args in
    let t = front a.g a.image.now in
    let O = in_order c.in_ok-ordered.ensures in
    let r = c.in-Some in
    let S : next_region a.g t < no_region a.g = omega (arith, r.ensures.number, r.ensures.below) in
    let e = c.edition-edition in
    let w = c.open_tables in
    let stays = (open_next a.g O.geometry (capacity a.g (length a.image.now)) t O.formed S).index in
    left_standing a.g a.image.now w.new.image (opened a.g t) (readable a.g a.image.now a.index.now O) w.auto.image w.ensures
    (opening r.region.0 e.result.0) a.index.now (O.recovered ∙ sym stays)
    ∙ ap₂ (λ (n d : ℕ). gives (opening n d) [] (tabled a.g (opened a.g t) a.image.now)) r.ensures.number (e.ensures ∙ ap (edition_of a.g t) r.ensures.number)
    ∙ sym (open_done a.g (lent a.image.now a.index.now) (open_0 a.g a.image.now a.index.now O S))
