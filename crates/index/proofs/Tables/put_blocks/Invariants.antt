-- The starts stand, the slots from N up are empty, and every block below `b` stands in its slot.
use Prim.Native.Nat.{ℕ, ◌≤◌, ◌<◌}
use mathlib.Core.Path.{◌≡◌}
use lib.ListN.{length}
use Rattle.image.specs.Views.{front_of}
use Rattle.paper.specs.Index.{slot_in}
use Rattle.rules.specs.Facts.{slot_for}
use Rattle.index.specs.Witnessed.{Starts, Spare}
use Rattle.index.proofs.Tables.put_blocks.Given as goal

abbrev pub invariant-loop-b : goal.invariant-loop-b
invariant-loop-b l =
    (l.b ≤ l.b-end) × (length l.index ≡ length l.initial.index) × Starts l.self.image.g (front_of l.self.image) l.index × Spare l.self.image.g (front_of l.self.image) l.index
    × ((a : ℕ) → a < l.b → slot_in l.self.image.g l.index (slot_for l.self.image.g (front_of l.self.image) a) ≡ a)
