-- `index::mark` meets its contract.
use Rattle.std.proofs.Common.{rules}
use Rattle.index.specs.Repeats.{unseen, marked}
use Rattle.index.proofs.Marks.{bit_fits}
use Rattle.index.proofs.mark.Goals as goal

pub returns-clause-value : goal.returns-clause-value
unfolding unseen
returns-clause-value c = search (rules, bit_fits c.args.one c.args.s c.requires.1)

pub returns-clause-seen_after : goal.returns-clause-seen_after
unfolding marked
returns-clause-seen_after c = search (rules, bit_fits c.args.one c.args.s c.requires.1)
