-- `zero_in` meets its contract: before the walk's spot the image is that of a store of zeros.
use mathlib.Core.Path.{◌≡◌}
use Rattle.laws.proofs.Lists.{zeros}
use Rattle.stretches.specs.Stretch.{block_from, offset_of, Walk}
use Rattle.stretches.proofs.Walks.{written_to}
use Rattle.stretches.proofs.zero_in.Given as goal

abbrev pub invariant-loop-at : goal.invariant-loop-at
invariant-loop-at l = record {
  geometry : l.at-iterator.g ≡ l.index.g;
  walk : Walk l.index.g (offset_of l.index.g l.fn.spot) l.n l.at-iterator.at l.at-iterator.left;
  written : l.image ≡ written_to l.index.g (block_from l.index.g l.index.bytes.now l.start) (offset_of l.index.g l.fn.spot) (zeros l.n) l.initial.image l.at-iterator.at.position.0;
}
