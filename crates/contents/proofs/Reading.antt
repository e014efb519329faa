-- The line of load, store and look, asked of an image and an index that were found right so far; and what a call does with its number.
use Rattle.std.specs.Prelude.{ℕ, List, ◌≡◌, ◌<◌}
use Rattle.std.proofs.Common.{sym}
use Rattle.paper.specs.declared.Geometry.{Geometry}
use Rattle.paper.specs.declared.Spot.{Spot}
use Rattle.paper.specs.Geometry.{block_bytes}
use Rattle.rules.specs.Facts.{Readable, Indexed, Entered, Reads}
use Rattle.rules.specs.Lines.{entered_no, read_no}
use Rattle.rules.proofs.Lines.{entered_whole, entered_shown, read_accepted}
use Rattle.rules.proofs.Right.{reads_index}
use Rattle.index.specs.declared.Lent.{Lent}
use Rattle.index.specs.Views.{IsLent}
use Rattle.stretches.specs.Stretch.{offset_of, IsSpot}

-- ---- asked of what `entered` gives back
module _ {g : Geometry} {image index : List ℕ} {l : Lent} (I : IsLent g image index l) where
  pub lent_entered : 0 ≡ entered_no g image index → Entered l.image.g l.image.bytes.now l.index.bytes.now
  lent_entered e = rw (I.of_image.geometry, I.of_image.lent, I.of_index) (entered_shown _ _ _ (sym e))

  pub lent_number : (r d o n : ℕ) {k : ℕ} → read_no l.image.g l.image.bytes.now l.index.bytes.now r d o n ≡ k → k ≡ read_no g image index r d o n
  lent_number r d o n e = rw (← I.of_image.geometry, ← I.of_image.lent, ← I.of_index) (sym e)

-- ---- what the walks from the spot on ask
pub spot_reads : {g : Geometry} {image index : List ℕ} {r o n : ℕ} (d : ℕ) {s : Spot} → 0 ≡ read_no g image index r d o n → IsSpot g o s
    → Reads g image index r (offset_of g s) n × (s.within < block_bytes g)
spot_reads d e I = (rw I.offset (read_accepted _ _ _ _ _ _ _ (sym e)).0, I.inside)

-- and what is known of the image and the index that it is read from
module _ (g : Geometry) (image index : List ℕ) (r d o n : ℕ) (e : 0 ≡ read_no g image index r d o n) where
  pub read_image : Readable g image
  read_image = (entered_whole _ _ _ (read_accepted _ _ _ _ _ _ _ (sym e)).0.entered).headed.readable

  pub read_index : Indexed g index
  read_index = (reads_index _ _ _ _ _ _ (read_accepted _ _ _ _ _ _ _ (sym e)).0).0
