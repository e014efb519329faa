-- Every region below C is not open, or its edition is below the last.
use Rattle.std.proofs.Common.{refl, rules, tests, arith}
use mathlib.Core.Path.{sym}
use Rattle.laws.proofs.Folds.{below_all}
use Rattle.laws.proofs.Ranges.{all_to}
use Rattle.paper.specs.WellFormed.{current}
use Rattle.rules.proofs.Facts.{facts_current}
use Rattle.rules.proofs.Fronts.{edition_none}
use Rattle.image.specs.Views.{front_of}
use Rattle.image.proofs.Entries.{given_current}
use Rattle.image.proofs.Image.all_current.Goals as goal

pub returns-then-not-is_version_3 : goal.returns-then-not-is_version_3
returns-then-not-is_version_3 c =
    let i = c.args.self.now in
    let t = front_of i in
    sym
    (below_all i.g.entries (current i.g t)
    (λ r l. facts_current i.g t r (λ o. omega (arith, edition_none i.g i.bytes.now r l (sym c.if-not-is_version_3.ensures)))))

pub returns : goal.returns
returns c =
    let i = c.args.self.now in
    let t = front_of i in
    rw (← given_current i.g t c.requires.high, ← c.given_out.ensures) (all_to _ (current i.g t) c.all.ensures.ran refl (λ x b q h k. search (rules, tests)))
