-- `image::set_not_open` meets its contract.
use Prim.Native.Nat.{ℕ}
use mathlib.Core.Path.{◌∙◌, ap₂}
use native.Mathlib.Omega.{arith}
use Rattle.laws.specs.Bytes.{put}
use Rattle.paper.specs.Geometry.{size_at}
use Rattle.paper.specs.Image.{front}
use Rattle.rules.proofs.Cells.{length_front}
use Rattle.rules.proofs.Fronts.{front_fits, put_front}
use Rattle.image.specs.Entries.{released_entry}
use Rattle.image.proofs.Entries.{set_not_open-put}
use Rattle.image.proofs.set_not_open.Goals as goal

pub returns : goal.returns
returns c =
    let a = c.args in
    let t = front a.g a.image.now in
    let full = length_front a.g a.image.now (front_fits a.g a.image.now c.requires.readable) in
    rw (set_not_open-put a.g t (omega (arith, full)) a.r.0 c.requires.r_lt_entries.0)
    (
    c.write.ensures
    ∙ ap₂ (λ (o n : ℕ). put 8 o n a.image.now) c.size_at.ensures c.released_entry-entry.ensures
    ∙ put_front a.g a.image.now c.requires.readable 8 (size_at a.g a.r.0) (released_entry a.g t a.r.0) (omega arith)
    )
