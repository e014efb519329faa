-- 02, R-2, "Moving older images over": a version 1 memory, whose bytes run from byte 0, becomes region 0 of an image.
use Rattle.std.specs.Prelude.{ℕ, ◌+◌, ◌-◌, ◌/◌, ◌||◌, cond, List, [], ◌∷◌, ◌++◌, eqb, ltb, take, length}
use Rattle.laws.specs.Bytes.{splice}
use Rattle.paper.specs.declared.Geometry.{Geometry}
use Rattle.paper.specs.Answers.{Done, Refused}
use Rattle.paper.specs.declared.Version.{Version}
use Rattle.paper.specs.declared.Version.TheVariants.{Two}
use Rattle.paper.specs.Geometry.{fixed_regions, anonymous, block_bytes, no_region, need, data_at}
use Rattle.paper.specs.Image.{Size, holds, rest, blanked, written}
use Rattle.paper.specs.Index.{index_of}
use Rattle.paper.specs.Calls.{version_number, laid_size}
use Rattle.paper.specs.Refusals.{Check, ◌when◌, first, no1, no2, no3}
use Rattle.paper.specs.Outcomes.{State, lent, Outcome, gives}

-- with need k, data block k-1 takes position 0 and block p-1 takes position p; the others are not taken
abbrev pub moved_place : ℕ → ℕ → ℕ
moved_place k b = cond (ltb (b + 1) k) (b + 1) 0

abbrev pub moved_owner : Geometry → ℕ → ℕ → ℕ
moved_owner g k b = cond (ltb b k) anonymous (no_region g)

-- region 0 has the page count, and every other region is as laid
unfoldable pub moved_size : ℕ → ℕ → Size
moved_size n r = cond (eqb r anonymous) (holds n) (laid_size r)

module _ (g : Geometry) where
  -- N is k, C is 16
  unfoldable pub moved_front : Version → ℕ → List ℕ
  moved_front v n = let k = need g n in written g (version_number v) k fixed_regions (moved_owner g k) (moved_place k) (moved_size n)

  -- the whole first block moves to the end: to data block k-1. With k 0 there is nothing to move
  unfoldable pub moved_data : ℕ → List ℕ → List ℕ
  moved_data n image = let k = need g n in cond (eqb k 0) image (splice (data_at g (k - 1)) (take (block_bytes g) image) image)

  -- its place becomes the reserve, of version 2 (02, R-12); bytes past those blocks stay
  abbrev pub moved_image : ℕ → List ℕ → List ℕ
  moved_image n image = moved_front Two n ++ rest g (blanked g (moved_data n image))

  module _ (n : ℕ) (image index : List ℕ) where
    -- the image holds fewer than k+1 whole blocks, or k exceeds B
    abbrev pub no13 : Check
    no13 = 13 when (ltb (length image / block_bytes g) (need g n + 1) || ltb g.blocks (need g n))

    -- checks 1, 2, 3 come first
    unfoldable pub move_refusal : ℕ
    move_refusal = first (no1 g image index ∷ no2 g image index ∷ no3 g image index ∷ no13 ∷ [])

  -- a move of n pages: answers 0 when done, and the index is what recover would then write. The header bytes that were there are ignored
  unfoldable pub move_outcome : ℕ → State → Outcome
  move_outcome n s =
      let k = move_refusal n s.image s.index in
      cond (eqb k 0) (gives (Done 0) [] (lent (moved_image n s.image) (index_of g (moved_front Two n)))) (gives (Refused k) [] s)
