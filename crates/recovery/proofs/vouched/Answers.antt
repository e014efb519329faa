-- `recovery::vouched` meets its contract.
use Rattle.std.proofs.Common.{sym, ◌∙◌, ◌≡◌, true, arith}
use Rattle.rules.proofs.Facts.{rule_a_facts}
use Rattle.recovery.proofs.vouched.Goals as goal

pub witnessed-requires : goal.witnessed-requires
witnessed-requires c =
    let kept : c.rule_a.result ≡ true = grind arith in
    record { high = ((rule_a_facts _ _ (sym c.rule_a.ensures ∙ kept)).1, c.requires.image_bound) }
