-- `desk::indexed_head` meets its contract.
use Rattle.std.proofs.Common.{sym, ◌∙◌, arith}
use Rattle.paper.proofs.Arithmetic.{allowed_facts}
use Rattle.rules.proofs.Lines.{indexed_head_on}
use Rattle.desk.proofs.indexed_head.Goals as goal

pub index_bytes-requires : goal.index_bytes-requires
index_bytes-requires c = allowed_facts _ (sym c.allowed.ensures ∙ c.if-not-allowed.false)

pub returns-clause-number : goal.returns-clause-number
returns-clause-number c =
    c.head.ensures.number ∙ sym (indexed_head_on _ _ _ (allowed_facts _ (sym c.allowed.ensures ∙ c.if-not-allowed.false)) (omega (arith, c.index_bytes.ensures)))
