-- The starts of the regions from `first` up to `r` stand, and the sum is the next.
use Prim.Native.Nat.{◌≤◌}
use mathlib.Core.Path.{◌≡◌}
use lib.ListN.{length}
use Rattle.image.specs.Views.{front_of}
use Rattle.paper.specs.Index.{start_of}
use Rattle.index.specs.Repeats.{StartsFrom}
use Rattle.index.proofs.Tables.read_starts.Given as goal

abbrev pub invariant-loop-r : goal.invariant-loop-r
invariant-loop-r l =
    (l.first.0 ≤ l.r) × (l.r ≤ l.r-end) × (length l.starts ≡ length l.initial.starts) × (l.sum ≡ start_of l.self.image.g (front_of l.self.image) l.r)
    × StartsFrom l.self.image.g (front_of l.self.image) l.first.0 l.r l.starts
