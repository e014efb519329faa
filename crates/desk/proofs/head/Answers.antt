-- `desk::head` meets its contract.
use Rattle.std.proofs.Common.{sym, ◌∙◌, arith}
use Rattle.paper.proofs.Arithmetic.{allowed_facts}
use Rattle.desk.proofs.Naming.{header_seen}
use Rattle.desk.proofs.head.Goals as goal

pub block_bytes-requires : goal.block_bytes-requires
block_bytes-requires c = allowed_facts _ (sym c.allowed.ensures ∙ c.if-not-allowed.false)

pub invariant_of-image : goal.invariant_of-image
invariant_of-image c = record { readable = record { allowed = allowed_facts _ (sym c.allowed.ensures ∙ c.if-not-allowed.false); long = omega arith } }

pub invariant_of-result : goal.invariant_of-result
invariant_of-result c =
    let a = allowed_facts _ (sym c.allowed.ensures ∙ c.if-not-allowed.false) in
    record { header = header_seen _ _ (record { allowed = a; long = omega arith }) (sym c.if-not-header_right.ensures) }
