-- An iteration puts one block's entry after those of the blocks before it.
use Prim.Native.Nat.{◌+◌}
use mathlib.Core.Path.{refl, sym, ◌∙◌}
use Rattle.laws.proofs.Lists.{join_none, splice_nil, splice_row}
use Rattle.paper.specs.Geometry.{header_bytes, entry_at}
use Rattle.paper.specs.Image.{entry_row, set_entry}
use Rattle.paper.specs.Move.{moved_owner, moved_place}
use Rattle.rules.proofs.Fronts.{still_readable, put_front2}
use Rattle.rules.proofs.Written.{length_entry, entry_put}
use native.Mathlib.Omega.{arith}
use Rattle.laying.proofs.write_blocks.Goals as goal

pub loop-i-init : goal.loop-i-init
loop-i-init c = (omega arith, refl, rw join_none (sym (splice_nil header_bytes c.args.image.now)))

pub loop-i-preserved : goal.loop-i-preserved
unfolding set_entry
loop-i-preserved c =
    let a = c.args in
    let l = c.loop-i in
    let b = l.i in
    let at = entry_at a.g b in
    let owner = moved_owner a.g a.taken in
    let place = moved_place a.taken in
    let R = still_readable a.g a.image.now l.image c.requires l.invariant.1 in
    let written = put_front2 a.g l.image R 2 at (owner b) 2 (at + 2) (place b) (omega arith) (omega arith) in
    let entry = entry_put owner place b at l.image (omega arith) in
    let more = splice_row 4 header_bytes b (entry_row owner place) a.image.now (length_entry _ _) (omega arith) in
    (omega arith, c.set_entry.auto.image ∙ l.invariant.1, cc (written, entry, more))
