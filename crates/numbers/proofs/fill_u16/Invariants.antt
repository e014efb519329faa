-- `i` numbers stand from `at` on.
use mathlib.Core.Path.{◌≡◌}
use Rattle.laws.specs.Folds.{join_below}
use Rattle.laws.specs.Bytes.{le, splice}
use Rattle.numbers.proofs.fill_u16.Given as goal

abbrev pub invariant-loop-i : goal.invariant-loop-i
invariant-loop-i l = l.s ≡ splice l.at (join_below l.i (λ _. le 2 l.v)) l.initial.s
