use Rattle.std.proofs.Common.{length, ◌-◌, ◌≤◌}
use Rattle.script.proofs.read_record.Given as goal

abbrev pub invariant-loop-got : goal.invariant-loop-got
invariant-loop-got l = l.got ≤ length l.bytes

abbrev pub decreases-loop-got : goal.decreases-loop-got
decreases-loop-got l = length l.bytes - l.got
