-- `moving::move_block` meets its contract: nothing is copied, or the first block.
use Prim.Native.Nat.{◌-◌}
use mathlib.Core.Path.{sym, ◌∙◌}
use lib.ListN.{length}
use Rattle.paper.proofs.Arithmetic.{capacity_blocks, block_within, block_after_lem}
use Rattle.rules.proofs.Moved.{data_none, data_some}
use native.Mathlib.Omega.{arith}
use Rattle.moving.proofs.move_block.Goals as goal

pub returns-then-k-eq0 : goal.returns-then-k-eq0
returns-then-k-eq0 c =
    let a = c.args in
    sym (data_none a.g a.pages.0 a.image.now (sym c.need-k.ensures ∙ c.if-k-eq0.true))

pub overflow_cast-last : goal.overflow_cast-last
overflow_cast-last c =
    let a = c.args in
    let p = c.requires in
    omega (arith, c.need-k.ensures, p.1, capacity_blocks a.g (length a.image.now), p.0.allowed.blocks_most)

pub copy_within-requires : goal.copy_within-requires
copy_within-requires c =
    let a = c.args in
    let p = c.requires in
    let last = c.need-k.result - 1 in
    let within = block_within a.g p.0.allowed (length a.image.now) last (omega (arith, c.need-k.ensures, p.1, c.if-k-eq0.false)) in (
      omega (arith, c.block_bytes.ensures, c.data_at.ensures, block_after_lem a.g last),
      omega (arith, c.block_bytes.ensures, c.data_at.ensures, within),
    )

pub returns : goal.returns
returns c =
    let a = c.args in
    let some = data_some a.g a.pages.0 a.image.now (λ z. c.if-k-eq0.false (c.need-k.ensures ∙ z)) in
    (rw (c.data_at.ensures, c.block_bytes.ensures, c.need-k.ensures) at c.copy_within.ensures) ∙ sym some
