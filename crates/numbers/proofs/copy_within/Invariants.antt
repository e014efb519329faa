-- `s` has `i` of the bytes in their place, and is else as it was.
use mathlib.Core.Path.{◌≡◌}
use lib.ListN.{take, drop}
use Rattle.laws.specs.Bytes.{splice}
use Rattle.numbers.proofs.copy_within.Given as goal

abbrev pub invariant-loop-i : goal.invariant-loop-i
invariant-loop-i l = l.s ≡ splice l.to (take l.i (drop l.from l.initial.s)) l.initial.s
