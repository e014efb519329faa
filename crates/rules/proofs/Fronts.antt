-- A number of the front, read and written in the image.
use Prim.Native.Nat.{ℕ, ◌+◌, ◌≤◌, ◌<◌}
use mathlib.Core.Bool.{true, false, not}
use mathlib.Core.Path.{◌≡◌, sym, ◌∙◌, ap}
use mathlib.Core.List.{List}
use native.Mathlib.Omega.{arith}
use native.Mathlib.Decide.{ℕ_discrete}
use borrow.Author.Tests.{eq-eqb, ne_eqb}
use lib.Dec.{eqb}
use lib.ListN.{length, length-append, length-drop, take-append-drop}
use lib.Seq.{drop_at}
use Rattle.laws.specs.Bytes.{num, le, put}
use Rattle.laws.proofs.Lists.{take-splice, drop-splice_before, splice-first}
use Rattle.laws.proofs.Bytes.{length-le, length-put}
use Rattle.laws.proofs.Known.{Bytes, num_fits}
use Rattle.paper.specs.declared.Geometry.{Geometry}
use Rattle.paper.specs.Geometry.{version_at, taken_at, counter_at, version3, half_bytes, all_ones, entry_at, size_at, edition_at, front_bytes}
use Rattle.paper.specs.Image.{not_open, holds, decoded, size_width, front, rest, version_of, taken, counter, owner, place, size_of, edition_of, is_open}
use Rattle.rules.proofs.Cells.{width_most, decoded_pages, decoded_not_open, num_front, front_joined}
use Rattle.rules.proofs.Facts.{is_open_lem, is_not_open}
use Rattle.rules.specs.Facts.{Readable, fronted}

pub front_fits : (g : Geometry) (image : List ℕ) → Readable g image → front_bytes g ≤ length image
front_fits g image R = omega (arith, R.allowed.reserve, R.long)

pub put_front : (g : Geometry) (image : List ℕ) → Readable g image → (w o x : ℕ) → o + w ≤ front_bytes g
    → put w o x image ≡ fronted g (put w o x (front g image)) image
put_front g image R w o x h =
    sym (splice-first (front_bytes g) o (le w x) image (rw length-le h) (front_fits g image R))

-- two numbers, one after the other
pub put_front2 : (g : Geometry) (image : List ℕ) → Readable g image → (w o x v p y : ℕ) → o + w ≤ front_bytes g → p + v ≤ front_bytes g
    → put v p y (put w o x image) ≡ fronted g (put v p y (put w o x (front g image))) image
put_front2 g image R w o x v p y h k =
    let n = front_bytes g in
    let l : n ≤ length image = front_fits g image R in
    let e : length (put w o x image) ≡ length image = length-put w o x image (omega arith) in
    sym (splice-first n p (le v y) (put w o x image) (rw length-le k) (omega arith))
    ∙ rw (take-splice n o (le w x) image (rw length-le h) l, drop-splice_before n o (le w x) image (rw length-le h) l)

-- ---- each reader, as the code reads it
module _ (g : Geometry) (image : List ℕ) where
  pub taken_read : num 2 image taken_at ≡ taken g (front g image)
  unfolding taken
  taken_read = sym (num_front g image 2 taken_at (omega arith))

  pub counter_read : num 2 image counter_at ≡ counter g (front g image)
  unfolding counter
  counter_read = sym (num_front g image 2 counter_at (omega arith))

  module _ (b : ℕ) (h : b < g.blocks) where
    pub owner_read : num 2 image (entry_at g b) ≡ owner g (front g image) b
    unfolding owner
    owner_read = sym (num_front g image 2 (entry_at g b) (omega arith))

    pub place_read : num 2 image (entry_at g b + 2) ≡ place g (front g image) b
    unfolding place
    place_read = sym (num_front g image 2 (entry_at g b + 2) (omega arith))

    -- two bytes
    pub place_fits : Bytes image → place g (front g image) b < 65536
    place_fits bytes = omega (arith, place_read, num_fits 2 image (entry_at g b + 2) bytes)

  pub version_read : num 4 image version_at ≡ version_of g (front g image)
  unfolding version_of
  version_read = sym (num_front g image 4 version_at (omega arith))

  module _ (r : ℕ) (h : r < g.entries) where
    -- of w bytes, as many as its version keeps for it
    pub size_read : (w : ℕ) → size_width (version_of g (front g image)) ≡ w → size_of g (front g image) r ≡ decoded w (num w image (size_at g r))
    unfolding size_of
    size_read w d = rw (d, num_front g image w (size_at g r) (omega (arith, width_most (version_of g (front g image)))))

    -- what a number of w bytes says of it
    module _ (w n : ℕ) (s : size_of g (front g image) r ≡ decoded w n) where
      pub size_open : (n ≡ all_ones w → ⊥) → size_of g (front g image) r ≡ holds n
      size_open ne = s ∙ decoded_pages w n ne

      pub size_not_open : n ≡ all_ones w → size_of g (front g image) r ≡ not_open
      size_not_open z = s ∙ rw z (decoded_not_open w)

      pub open_read : not (eqb n (all_ones w)) ≡ is_open g (front g image) r
      open_read = go (ℕ_discrete n (all_ones w))
        where
          go : Dec (n ≡ all_ones w) → not (eqb n (all_ones w)) ≡ is_open g (front g image) r
          go (yes z) = rw (eq-eqb n (all_ones w) z, is_not_open g (front g image) r (size_not_open z))
          go (no ne) = rw (ne_eqb n (all_ones w) ne, is_open_lem g (front g image) r h n (size_open ne))

    -- version 3 keeps the edition, any other has edition 0
    pub edition_read : eqb (version_of g (front g image)) version3 ≡ true → num half_bytes image (edition_at g r) ≡ edition_of g (front g image) r
    unfolding edition_of
    edition_read d = rw d (sym (num_front g image 4 (edition_at g r) (omega arith)))

    pub edition_none : eqb (version_of g (front g image)) version3 ≡ false → edition_of g (front g image) r ≡ 0
    unfolding edition_of
    edition_none d = rw d

-- ---- an image whose front was written anew: its front is that front, and the rest stands
-- writes keep an image's length
pub still_readable : (g : Geometry) (image later : List ℕ) → Readable g image → length later ≡ length image → Readable g later
still_readable g image later R long = record { allowed = R.allowed; long = rw long R.long }

module _ (g : Geometry) (image later t : List ℕ) (R : Readable g image) (long : length later ≡ length image) (e : later ≡ fronted g t image) where
  pub full : length t ≡ front_bytes g
  full = omega (arith, front_fits g image R, simp (length-append, length-drop) at (sym long ∙ ap length e))

  pub front_is : front g later ≡ t
  front_is = rw e (front_joined g t image full)

  rest_is : rest g later ≡ rest g image
  rest_is = rw e (drop_at t (rest g image) (front_bytes g) full)

  -- a second write after the first
  pub then : (f : List ℕ → List ℕ) (last : List ℕ) → last ≡ fronted g (f (front g later)) later → last ≡ fronted g (f t) image
  then f last d = d ∙ rw (front_is, rest_is)

-- nothing written
pub unchanged : (g : Geometry) (image : List ℕ) → image ≡ fronted g (front g image) image
unchanged g image = sym (take-append-drop (front_bytes g) image)
