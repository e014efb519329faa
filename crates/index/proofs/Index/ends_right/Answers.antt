-- `index::Index::ends_right` meets its contract.
use Rattle.std.proofs.Common.{refl, rules, tests, eqb}
use Rattle.laws.proofs.Ranges.{all_in_range}
use Rattle.paper.specs.Index.{start_in}
use Rattle.index.proofs.Index.ends_right.Goals as goal

pub returns : goal.returns
returns c =
    all_in_range _ _ (λ r. eqb (start_in c.args.self.now.g c.args.self.now.bytes.now r) c.args.n) c.all.ensures.ran refl (search (rules, tests))
