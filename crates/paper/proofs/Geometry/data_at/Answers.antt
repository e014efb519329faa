-- `Geometry::data_at` meets its contract.
use Rattle.std.proofs.Common.{◌+◌, ◌≤◌, arith}
use native.Mathlib.Nat.{mul-le-mul}
use Rattle.paper.proofs.Arithmetic.{block_bound}
use Rattle.paper.proofs.Geometry.data_at.Goals as goal

pub overflow_mul-result : goal.overflow_mul-result
overflow_mul-result c =
    let a = c.args in
    let k : a.b.0 + 1 ≤ 65536 = omega arith in
    let w : c.block_bytes.result ≤ 8388608 = omega (arith, block_bound a.self c.requires) in
    omega (arith, mul-le-mul k w)
