-- `tables::lowest_openable` meets its contract: the first region that the search finds.
use Rattle.std.proofs.Common.{rules, tests, arith}
use Rattle.laws.proofs.Ranges.{first_in_range}
use Rattle.paper.specs.Geometry.{fixed_regions, no_region}
use Rattle.paper.specs.Calls.{openable, lowest_openable}
use Rattle.image.specs.Views.{front_of}
use Rattle.tables.proofs.lowest_openable.Goals as goal

pub returns-clause-number : goal.returns-clause-number
unfolding lowest_openable
returns-clause-number c =
    let i = c.args.image.now in
    let found = first_in_range _ _ fixed_regions (no_region i.g) (openable i.g (front_of i)) c.find-lowest.ensures.ran (search rules) (omega arith) (search (rules, tests)) in
    grind (arith, found)
