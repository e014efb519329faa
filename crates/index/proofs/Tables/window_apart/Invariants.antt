-- The bit of a slot is set exactly where a block below `b` stands in it, and no two of these stand in one slot of the window.
use Prim.Native.Nat.{◌≤◌}
use mathlib.Core.Bool.{true}
use mathlib.Core.Path.{◌≡◌}
use Rattle.laws.specs.Folds.{all_below}
use Rattle.image.specs.Views.{front_of}
use Rattle.index.proofs.Repeats.{Marks, passes}
use Rattle.index.proofs.Tables.window_apart.Given as goal

abbrev pub invariant-loop-b : goal.invariant-loop-b
invariant-loop-b l =
    (l.b ≤ l.b-end) × (l.work.starts ≡ l.initial.work.starts) × Marks l.self.image.g (front_of l.self.image) l.w.from l.w.to l.b l.work.seen
    × (all_below l.b (passes l.self.image.g (front_of l.self.image) l.w.from l.w.to) ≡ true)
