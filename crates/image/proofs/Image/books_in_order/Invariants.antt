-- Every book below `r` fits, and `left` is what their needs leave of N.
use Prim.Native.Nat.{◌+◌, ◌≤◌}
use mathlib.Core.Bool.{true}
use mathlib.Core.Path.{◌≡◌}
use Rattle.laws.specs.Folds.{all_below, sum_below}
use Rattle.paper.specs.Image.{taken, need_of}
use Rattle.paper.specs.WellFormed.{fits}
use Rattle.image.specs.Views.{front_of}
use Rattle.image.proofs.Image.books_in_order.Given as goal

abbrev pub invariant-loop-r : goal.invariant-loop-r
invariant-loop-r l =
    (l.r ≤ l.r-end)
    × (l.left + sum_below l.r (need_of l.self.g (front_of l.self)) ≡ taken l.self.g (front_of l.self))
    × (all_below l.r (fits l.self.g (front_of l.self)) ≡ true)
