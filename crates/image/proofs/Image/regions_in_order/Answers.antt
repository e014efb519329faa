-- `image::Image::regions_in_order` meets its contract: region 1's sentence of rule b may come first.
use mathlib.Core.Bool.{Bool, true, false, ◌&&◌}
use mathlib.Core.Path.{◌≡◌, refl, sym, ◌∙◌}
use Rattle.laws.specs.Folds.{all_below}
use Rattle.laws.proofs.Tests.{and_false_left, and_false_right}
use Rattle.paper.specs.WellFormed.{rule_a, fits, rule_b, rule_c}
use Rattle.rules.proofs.Facts.{rule_a_facts}
use Rattle.image.specs.Views.{front_of}
use Rattle.image.proofs.Image.regions_in_order.Goals as goal

pub returns-then-not-reclaimed_whole : goal.returns-then-not-reclaimed_whole
unfolding rule_b
returns-then-not-reclaimed_whole c =
    let i = c.args.self.now in
    let t = front_of i in
    sym (and_false_left (rule_c i.g t) (and_false_right (rule_a i.g t) (and_false_right (all_below i.g.entries (fits i.g t)) (sym c.if-not-reclaimed_whole.ensures))))

pub books_in_order-requires : goal.books_in_order-requires
books_in_order-requires c = record { high = (rule_a_facts c.args.self.now.g (front_of c.args.self.now) (sym c.if-not-rule_a.ensures)).1 }

pub returns : goal.returns
unfolding rule_b
returns c =
    let i = c.args.self.now in
    let t = front_of i in
    c.books_in_order.ensures ∙ go (all_below i.g.entries (fits i.g t)) (rule_c i.g t) ∙ sym (rw (sym c.if-not-rule_a.ensures, sym c.if-not-reclaimed_whole.ensures))
  where
    go : (f r : Bool) → (f && r) ≡ (f && true && r)
    go true r = refl
    go false r = refl
