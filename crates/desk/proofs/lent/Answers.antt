-- `desk::lent` meets its contract.
use Rattle.std.proofs.Common.{sym, ◌∙◌}
use Rattle.paper.proofs.Arithmetic.{allowed_facts}
use Rattle.desk.proofs.lent.Goals as goal

pub index_bytes-requires : goal.index_bytes-requires
index_bytes-requires c = allowed_facts _ (sym c.allowed.ensures ∙ c.if-not-allowed.false)

pub block_bytes-requires : goal.block_bytes-requires
block_bytes-requires c = allowed_facts _ (sym c.allowed.ensures ∙ c.if-not-allowed.false)
