-- No two blocks stand in one slot of a region before `r`, whose start is `from`.
use Prim.Native.Nat.{◌-◌, ◌%◌, ◌≤◌, ◌<◌}
use mathlib.Core.Bool.{true}
use mathlib.Core.Path.{◌≡◌}
use Rattle.image.specs.Views.{front_of}
use Rattle.paper.specs.Index.{start_of}
use Rattle.index.specs.Repeats.{regions_at_once, apart}
use Rattle.index.proofs.Tables.all_apart.Given as goal

abbrev pub invariant-loop-from : goal.invariant-loop-from
invariant-loop-from l =
    (l.r ≤ l.self.image.g.entries) × (l.from ≡ start_of l.self.image.g (front_of l.self.image) l.r)
    × (apart l.self.image.g (front_of l.self.image) 0 l.from ≡ true) × (l.r < l.self.image.g.entries → l.r % regions_at_once ≡ 0)

abbrev pub decreases-loop-from : goal.decreases-loop-from
decreases-loop-from l = l.self.image.g.entries - l.r
