-- `byte_at` meets its contract.
use Rattle.paper.proofs.Arithmetic.{block_bound, data_bound}
use native.Mathlib.Omega.{arith}
use Rattle.stretches.proofs.byte_at.Goals as goal

pub overflow_add-result : goal.overflow_add-result
overflow_add-result c =
    let A = c.args.index.now.indexed.allowed in
    let d = data_bound c.args.index.now.g c.slot-b.result.0 A (omega arith) in
    omega (arith, block_bound c.args.index.now.g A)
