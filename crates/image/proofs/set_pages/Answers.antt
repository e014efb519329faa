-- `image::set_pages` meets its contract.
use Prim.Native.Nat.{ℕ, ◌+◌, ◌≤◌}
use mathlib.Core.Path.{◌≡◌, sym, ◌∙◌, ap}
use mathlib.Core.List.{List}
use native.Mathlib.Omega.{arith}
use Rattle.laws.specs.Bytes.{put}
use Rattle.paper.specs.declared.Geometry.{Geometry}
use Rattle.paper.specs.Geometry.{size_at, front_bytes}
use Rattle.paper.specs.Image.{front, version_of, size_width, set_pages}
use Rattle.rules.specs.Facts.{Readable, fronted}
use Rattle.rules.proofs.Cells.{version3_width, version2_width, set_pages-put}
use Rattle.rules.proofs.Fronts.{put_front}
use Rattle.image.proofs.set_pages.Goals as goal

in-width : (g : Geometry) (image : List ℕ) → Readable g image → (r n w : ℕ) → size_width (version_of g (front g image)) ≡ w → size_at g r + w ≤ front_bytes g
    → put w (size_at g r) n image ≡ fronted g (set_pages g r n (front g image)) image
in-width g image R r n w e h = rw (set_pages-put g r (front g image) n, e) (put_front g image R w (size_at g r) n h)

pub returns-then-is_version_3 : goal.returns-then-is_version_3
returns-then-is_version_3 c =
    let a = c.args in
    let v = version_of a.g (front a.g a.image.now) in
    c.write.ensures
    ∙ ap (λ (o : ℕ). put 4 o a.n.0 a.image.now) c.size_at.ensures
    ∙ in-width a.g a.image.now c.requires.readable a.r.0 a.n.0 4 (version3_width v (sym c.if-is_version_3.ensures)) (omega arith)

pub returns-else-is_version_3 : goal.returns-else-is_version_3
returns-else-is_version_3 c =
    let a = c.args in
    let v = version_of a.g (front a.g a.image.now) in
    c.write-else-is_version_3.ensures
    ∙ ap (λ (o : ℕ). put 8 o a.n.0 a.image.now) c.size_at-else-is_version_3.ensures
    ∙ in-width a.g a.image.now c.requires.readable a.r.0 a.n.0 8 (version2_width v (sym c.if-is_version_3.ensures)) (omega arith)
