-- The entries of `r` regions stand after those of the blocks.
use Prim.Native.Nat.{◌+◌, ◌*◌}
use mathlib.Core.Path.{◌≡◌, refl, sym, ◌∙◌}
use Rattle.laws.proofs.Lists.{join_none, splice_nil, splice_row}
use Rattle.paper.specs.Geometry.{size_at}
use Rattle.paper.specs.Image.{size_row}
use Rattle.paper.specs.Calls.{version_number}
use Rattle.paper.specs.Move.{moved_size}
use Rattle.rules.proofs.Written.{length_size, size_put}
use Rattle.rules.proofs.Moved.{moved_codable}
use native.Mathlib.Omega.{arith}
use Rattle.laying.proofs.write_regions.Goals as goal

pub loop-r-init : goal.loop-r-init
loop-r-init c =
    let a = c.args in
    (omega arith, refl, rw join_none (sym (splice_nil (size_at a.g 0) a.image.now)))

pub loop-r-preserved : goal.loop-r-preserved
loop-r-preserved c =
    let a = c.args in
    let p = c.requires in
    let l = c.loop-r in
    let v = version_number a.version in
    let size = moved_size a.pages.0 in
    let from = size_at a.g 0 in
    let at : size_at a.g l.r ≡ from + 8 * l.r = omega arith in
    let written = size_put v size l.r (size_at a.g l.r) l.image (moved_codable a.g p.0.allowed a.version a.pages.0 p.1 l.r) in
    let more = splice_row 8 from l.r (size_row v size) a.image.now (length_size v size) (omega arith) in (
      omega arith,
      c.write.auto.s ∙ l.invariant.1,
      (rw (c.size_at.ensures, c.new_size.ensures) at c.write.ensures) ∙ written ∙ rw (at, l.invariant.2) more,
    )
