-- `recovery::in_order` meets its contract.
use Rattle.std.proofs.Common.{sym, ◌∙◌}
use Rattle.recovery.proofs.Refused.{loosely_facts, order_loose, order_not_loose}
use Rattle.recovery.proofs.in_order.Goals as goal

pub invariant_of-alone_all : goal.invariant_of-alone_all
invariant_of-alone_all c = record {
  tabled = record {
    readable = c.args.headed.now.image.readable;
    bound = c.args.headed.now.header.taken_most;
    slotted = loosely_facts _ _ (sym c.loosely.ensures ∙ c.if-loosely.true);
  };
}

pub returns-then-loosely : goal.returns-then-loosely
returns-then-loosely c = c.alone_all.ensures ∙ sym (order_loose _ _ (sym c.loosely.ensures ∙ c.if-loosely.true))

pub returns-else-loosely : goal.returns-else-loosely
returns-else-loosely c = c.if-loosely.false ∙ sym (order_not_loose _ _ (sym c.loosely.ensures ∙ c.if-loosely.false))
