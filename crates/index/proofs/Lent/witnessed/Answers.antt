-- `index::Lent::witnessed` meets its contract.
use Rattle.std.proofs.Common.{rules, tests, sym, ◌∙◌}
use Rattle.index.specs.Witnessed.{witnessed}
use Rattle.index.proofs.Witness.{starts_facts}
use Rattle.index.proofs.Lent.witnessed.Goals as goal

pub blocks_right-requires : goal.blocks_right-requires
blocks_right-requires c =
    let f = starts_facts _ _ c.args.self.now.index.bytes.now (sym c.starts_right.ensures ∙ c.if-starts_right.true) in
    record { summed = record { starts = f.0; total = f.1; bound = c.requires.high.1 } }

pub returns-then-blocks_right : goal.returns-then-blocks_right
unfolding witnessed
returns-then-blocks_right c = search (rules, tests)

pub returns-else-blocks_right : goal.returns-else-blocks_right
unfolding witnessed
returns-else-blocks_right c = search (rules, tests)
