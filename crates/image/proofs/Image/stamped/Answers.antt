-- `image::Image::stamped` meets its contract.
use Rattle.std.proofs.Common.{eqb, ◌≡◌, ◌&&◌, ◌||◌, ℕ, List, refl}
use mathlib.Core.Path.{sym, ◌∙◌}
use borrow.Author.Tests.{ne_eqb}
use Rattle.laws.specs.Bytes.{num}
use Rattle.laws.proofs.Tests.{clash}
use Rattle.paper.specs.declared.Geometry.{Geometry}
use Rattle.paper.specs.Geometry.{marker_at, version_at, blank_at, version2, version3}
use Rattle.paper.specs.Image.{front, stamped}
use Rattle.rules.proofs.Cells.{num_front}
use Rattle.rules.proofs.Fronts.{version_read}
use native.Mathlib.Omega.{arith}
use Rattle.image.proofs.Image.stamped.Goals as goal
use Rattle.image.proofs.Image.stamped.Goals.{then-read-eq0, else-read-eq0}

-- the three tests, of what was read
stamp : (g : Geometry) (image : List ℕ) (m v z : ℕ) → m ≡ num 4 image marker_at → v ≡ num 4 image version_at → z ≡ num 4 image blank_at
    → stamped g (front g image) ≡ (eqb m 0 && (eqb v version2 || eqb v version3) && eqb z 0)
unfolding stamped
stamp g image m v z marker version blank =
    rw (num_front g image 4 marker_at (omega arith), num_front g image 4 blank_at (omega arith), ← version_read g image, ← marker, ← version, ← blank) refl

pub returns-then-is_version : goal.returns-then-is_version
returns-then-is_version c =
    let i = c.args.self.now in
    elim c.if-read-eq0.branch [
      | then-read-eq0 w ↦
          sym
          (stamp i.g i.bytes.now c.read.result w.read-then-read-eq0.result c.read-then-is_version.result c.read.ensures w.read-then-read-eq0.ensures c.read-then-is_version.ensures
          ∙ simp (w.if-read-eq0.true, sym w.is_version.ensures ∙ sym w.value-is ∙ c.if-is_version.true))
      | else-read-eq0 w ↦ clash c.if-read-eq0.value c.if-is_version.true (w.value-is ∙ ne_eqb c.read.result 0 w.if-read-eq0.false)
    ]

pub returns-else-is_version : goal.returns-else-is_version
returns-else-is_version c =
    let i = c.args.self.now in
    let image = i.bytes.now in
    elim c.if-read-eq0.branch [
      | then-read-eq0 w ↦
          c.if-is_version.false
          ∙ sym
          (stamp i.g image c.read.result w.read-then-read-eq0.result (num 4 image blank_at) c.read.ensures w.read-then-read-eq0.ensures refl
          ∙ simp (w.if-read-eq0.true, sym w.is_version.ensures ∙ sym w.value-is ∙ c.if-is_version.false))
      | else-read-eq0 w ↦
          c.if-is_version.false
          ∙ sym
          (stamp i.g image c.read.result (num 4 image version_at) (num 4 image blank_at) c.read.ensures refl refl
          ∙ simp (ne_eqb c.read.result 0 w.if-read-eq0.false))
    ]
