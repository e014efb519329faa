-- `books::zero_new`: before the walk's spot the image is that of a store of zeros.
use Prim.Native.Nat.{◌*◌}
use mathlib.Core.Path.{◌≡◌}
use Rattle.laws.proofs.Lists.{zeros}
use Rattle.paper.specs.Image.{front, pages_of}
use Rattle.stretches.specs.Stretch.{Walk}
use Rattle.stretches.proofs.Walks.{written_to}
use Rattle.tables.specs.Grant.{block_after}
use Rattle.books.proofs.zero_new.Given as goal

abbrev pub invariant-loop-at : goal.invariant-loop-at
invariant-loop-at l =
    let g = l.index.g in
    let first = pages_of g (front g l.initial.image) l.region.0 * g.page in
    record {
      geometry : l.at-iterator.g ≡ g;
      walk : Walk g first l.n l.at-iterator.at l.at-iterator.left;
      written : l.image
          ≡ written_to g (block_after g l.index.bytes.now l.region.0 l.s) first (zeros l.n) l.initial.image l.at-iterator.at.position.0;
    }
