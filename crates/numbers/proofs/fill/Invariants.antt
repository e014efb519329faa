-- The bytes are `i` times b, then what they held.
use mathlib.Core.Path.{◌≡◌}
use mathlib.Core.List.{◌++◌}
use lib.ListN.{replicate, drop}
use Rattle.numbers.proofs.fill.Given as goal

abbrev pub invariant-loop-i : goal.invariant-loop-i
invariant-loop-i l = l.bytes ≡ replicate l.i l.b ++ drop l.i l.initial.bytes
