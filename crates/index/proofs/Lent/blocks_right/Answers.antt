-- `index::Lent::blocks_right` meets its contract.
use Rattle.std.proofs.Common.{rules, tests}
use Rattle.laws.proofs.Ranges.{all_to}
use Rattle.image.specs.Views.{front_of}
use Rattle.index.specs.Witnessed.{block_right}
use Rattle.index.proofs.Lent.blocks_right.Goals as goal

pub returns : goal.returns
returns c =
    let l = c.args.self.now in
    all_to _ (block_right l.image.g (front_of l.image) l.index.bytes.now) c.all.ensures.ran (search rules) (search (rules, tests))
