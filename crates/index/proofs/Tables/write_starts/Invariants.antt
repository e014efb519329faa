-- Every start before `r` stands, and `start` is the next.
use Prim.Native.Nat.{ℕ, ◌≤◌, ◌<◌}
use mathlib.Core.Path.{◌≡◌}
use lib.ListN.{length}
use Rattle.image.specs.Views.{front_of}
use Rattle.paper.specs.Index.{start_of, start_in}
use Rattle.index.proofs.Tables.write_starts.Given as goal

abbrev pub invariant-loop-r : goal.invariant-loop-r
invariant-loop-r l =
    (l.r ≤ l.r-end) × (length l.index ≡ length l.initial.index) × (l.start ≡ start_of l.self.image.g (front_of l.self.image) l.r)
    × ((q : ℕ) → q < l.r → start_in l.self.image.g l.index q ≡ start_of l.self.image.g (front_of l.self.image) q)
