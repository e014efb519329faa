-- `image::Image::rule_a` meets its contract.
use mathlib.Core.Path.{sym, ◌∙◌}
use Rattle.image.specs.Views.{front_of}
use Rattle.image.proofs.Entries.{rule_a_passes, fresh_high}
use Rattle.image.proofs.Image.rule_a.Goals as goal

pub returns-then-not-low_fixed : goal.returns-then-not-low_fixed
returns-then-not-low_fixed c =
    let i = c.args.self.now in
    sym (rule_a_passes i.g (front_of i) ∙ rw (sym c.if-not-low_fixed.ensures))

pub returns-then-not-high_fresh : goal.returns-then-not-high_fresh
returns-then-not-high_fresh c =
    let i = c.args.self.now in
    sym (rule_a_passes i.g (front_of i) ∙ rw (sym c.if-not-low_fixed.ensures, sym c.if-not-high_fresh.ensures))

pub all_current-requires : goal.all_current-requires
all_current-requires c = record { high = fresh_high c.args.self.now.g (front_of c.args.self.now) (sym c.if-not-high_fresh.ensures) }

pub returns : goal.returns
returns c =
    let i = c.args.self.now in
    c.all_current.ensures ∙ sym (rule_a_passes i.g (front_of i) ∙ rw (sym c.if-not-low_fixed.ensures, sym c.if-not-high_fresh.ensures))
