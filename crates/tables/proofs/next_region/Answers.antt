-- `tables::next_region` meets its contract: the counter below E-1 gives the region, else the search does.
use Rattle.std.proofs.Common.{rules, tests}
use Rattle.paper.specs.Calls.{next_region}
use Rattle.tables.proofs.next_region.Goals as goal

pub returns-then-lt-clause-number : goal.returns-then-lt-clause-number
unfolding next_region
returns-then-lt-clause-number c = search (rules, tests)

pub returns-clause-number : goal.returns-clause-number
unfolding next_region
returns-clause-number c = search (rules, tests)
