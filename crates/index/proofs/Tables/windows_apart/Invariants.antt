-- No two blocks stand in one slot before `from`; while slots are left, those before it are of earlier runs.
use Prim.Native.Nat.{ℕ, ◌-◌, ◌/◌, ◌≤◌, ◌<◌}
use mathlib.Core.Bool.{true}
use mathlib.Core.Path.{◌≡◌}
use Rattle.image.specs.Views.{front_of}
use Rattle.index.specs.Repeats.{slots_at_once, apart}
use Rattle.index.proofs.Tables.windows_apart.Given as goal

abbrev pub invariant-loop-from : goal.invariant-loop-from
invariant-loop-from l =
    (l.w.from ≤ l.from) × (l.from ≤ l.w.to) × (l.work.starts ≡ l.initial.work.starts) × (apart l.self.image.g (front_of l.self.image) l.w.from l.from ≡ true)
    × (l.from < l.w.to → (s : ℕ) → l.w.from ≤ s → s < l.from → s / slots_at_once < l.from / slots_at_once)

abbrev pub decreases-loop-from : goal.decreases-loop-from
decreases-loop-from l = l.w.to - l.from
