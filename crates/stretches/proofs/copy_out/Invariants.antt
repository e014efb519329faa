-- `copy_out` meets its contract: the buffer holds as many of the book's bytes as are done.
use Prim.Native.Nat.{◌-◌}
use mathlib.Core.Path.{◌≡◌}
use lib.ListN.{length}
use Rattle.stretches.specs.Stretch.{block_from, offset_of, Walk}
use Rattle.stretches.proofs.Walks.{read_to}
use Rattle.stretches.proofs.copy_out.Given as goal

abbrev pub invariant-loop-at : goal.invariant-loop-at
invariant-loop-at l = record {
  geometry : l.at-iterator.g ≡ l.lent.index.g;
  walk : Walk l.lent.index.g (offset_of l.lent.index.g l.fn.spot) (length l.initial.buffer) l.at-iterator.at l.at-iterator.left;
  done : l.done ≡ length l.initial.buffer - l.at-iterator.left;
  read : l.buffer ≡ read_to l.lent.index.g (block_from l.lent.index.g l.lent.index.bytes.now l.start) (offset_of l.lent.index.g l.fn.spot) l.lent.image.bytes.now l.initial.buffer l.done;
}
