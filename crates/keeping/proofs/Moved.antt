-- A moved image: it is in order, its reserve blank, and region 0 reads byte for byte as the old memory did.
use Prim.Native.Nat.{ℕ, ◌+◌, ◌-◌, ◌*◌, ◌/◌, ◌%◌, ◌≤◌, ◌<◌}
use mathlib.Core.Bool.{true}
use mathlib.Core.Logic.{◌≢◌}
use mathlib.Core.Path.{◌≡◌, sym, ◌∙◌, ap}
use mathlib.Core.List.{List, []}
use native.Mathlib.Omega.{arith}
use native.Mathlib.Nat.{mul-le-mul_right, zero-mul, div-add-mod', div-lt_iff_lt-mul, le-div_iff_mul-le, mod-lt, add-mul, one-mul, zero-add, not-suc-le-zero}
use native.Mathlib.Decide.{ℕ_discrete}
use borrow.Author.Tests.{eq-eqb, ne_eqb}
use lib.ListN.{take, get_or, length}
use lib.Seq.{get_or-take, get_or-drop, ext_get_or, length-take-le}
use Rattle.laws.proofs.Lists.{length-splice, splice_before, splice_in}
use Rattle.paper.specs.declared.Geometry.{Geometry}
use Rattle.paper.specs.declared.Version.TheVariants.{Two}
use Rattle.paper.specs.Answers.{Done}
use Rattle.paper.specs.Geometry.{anonymous, block_bytes, Allowed, capacity, need, front_bytes, data_at}
use Rattle.paper.specs.Image.{front, data_of, blanked, taken, pages_of, block_of}
use Rattle.paper.specs.Index.{index_of}
use Rattle.paper.specs.Calls.{address_of, book_in}
use Rattle.paper.specs.Outcomes.{lent, gives}
use Rattle.paper.specs.Move.{moved_front, moved_data, moved_image}
use Rattle.paper.specs.Refusals.{unused_blank}
use Rattle.paper.proofs.Arithmetic.{block_positive, block_after_lem, book_spans}
use Rattle.rules.specs.Facts.{Rules, Readable, Indexed, Ordered, Movable}
use Rattle.rules.proofs.Cells.{front_joined, length_joined}
use Rattle.rules.proofs.Parts.{unused_joined, data_of_joined, unused_blanked, data_blanked, length-blanked, blank_exactly}
use Rattle.rules.proofs.Moved.{none_needed, moved_full, moved_size_lem, moved_formed, moved_first, moved_next}
use Rattle.keeping.proofs.Loaded.{length-loaded, get_or_whole}

module _ (g : Geometry) (n : ℕ) (image index : List ℕ) (M : Movable g n image index) where
  A : Allowed g
  A = M.readable.allowed

  abbrev k : ℕ
  k = need g n

  abbrev u : List ℕ
  u = moved_front g Two n

  abbrev copied : List ℕ
  copied = moved_data g n image

  -- so many whole blocks are there, and room for k of data
  enough : (k + 1) * block_bytes g ≤ length image
  enough = (le-div_iff_mul-le {k = block_bytes g} {x = k + 1} {y = length image} (block_positive g A)).0 M.whole

  pub move_room : need g n ≤ capacity g (length image)
  unfolding capacity
  move_room = omega (arith, M.whole, M.most)

  -- ---- the first block copied: it stands last, and all before it stays
  first_long : length (take (block_bytes g) image) ≡ block_bytes g
  first_long = length-take-le (block_bytes g) image M.readable.long

  last_at : k ≢ 0 → data_at g (k - 1) ≡ k * block_bytes g
  last_at ne = let e : k - 1 + 1 ≡ k = omega arith in rw e

  last_fits : k ≢ 0 → data_at g (k - 1) + length (take (block_bytes g) image) ≤ length image
  last_fits ne = omega (arith, last_at ne, first_long, enough, add-mul k 1 (block_bytes g), one-mul (block_bytes g))

  pub data_long : length (moved_data g n image) ≡ length image
  unfolding moved_data
  data_long = go (ℕ_discrete k 0)
    where
      go : Dec (k ≡ 0) → length (moved_data g n image) ≡ length image
      go (yes e) = rw (eq-eqb k 0 e)
      go (no ne) = rw (ne_eqb k 0 ne) (length-splice (data_at g (k - 1)) (take (block_bytes g) image) image (last_fits ne))

  data_last : k ≢ 0 → (j : ℕ) → j < block_bytes g → get_or copied (data_at g (k - 1) + j) 0 ≡ get_or image j 0
  unfolding moved_data
  data_last ne j h =
      rw (ne_eqb k 0 ne)
      (splice_in (data_at g (k - 1)) (take (block_bytes g) image) image (last_fits ne) j (omega (arith, first_long)) ∙ get_or-take (block_bytes g) image j 0 h)

  data_before : k ≢ 0 → (i : ℕ) → i < k * block_bytes g → get_or copied i 0 ≡ get_or image i 0
  unfolding moved_data
  data_before ne i h =
      rw (ne_eqb k 0 ne) (splice_before (data_at g (k - 1)) (take (block_bytes g) image) image (last_fits ne) i (omega (arith, last_at ne)))

  -- ---- the image
  long : block_bytes g ≤ length copied
  long = omega (arith, data_long, M.readable.long)

  blank_long : length (blanked g copied) ≡ length image
  blank_long = length-blanked g A copied long ∙ data_long

  full : length u ≡ front_bytes g
  full = moved_full g A Two n M.most

  pub moved_front_lem : front g (moved_image g n image) ≡ moved_front g Two n
  moved_front_lem = front_joined g u (blanked g copied) full

  pub moved_length : length (moved_image g n image) ≡ length image
  moved_length = length_joined g u (blanked g copied) full (omega (arith, blank_long, M.readable.long, A.reserve)) ∙ blank_long

  blanked_long : block_bytes g ≤ length (blanked g copied)
  blanked_long = omega (arith, blank_long, M.readable.long)

  pub moved_blank : unused_blank g (moved_image g n image) ≡ true
  moved_blank =
      (blank_exactly g A (moved_image g n image) (omega (arith, moved_length, M.readable.long))).1
      (unused_joined g A (blanked g copied) blanked_long u full ∙ unused_blanked g A copied long)

  moved_data_lem : data_of g (moved_image g n image) ≡ data_of g copied
  moved_data_lem = data_of_joined g A (blanked g copied) blanked_long u full ∙ data_blanked g A copied long

  pub moved_ordered : Ordered g (moved_image g n image) (index_of g (moved_front g Two n))
  moved_ordered = record {
    geometry = A;
    long = omega (arith, moved_length, M.readable.long);
    formed = rw (moved_front_lem, moved_length) (moved_formed g A Two n M.most (capacity g (length image)) move_room);
    recovered = rw moved_front_lem;
  }

  -- the index can be written from it, and then both are what the move leaves
  module _ (later : List ℕ) (e : later ≡ moved_image g n image) where
    pub moved_writable : (Readable g later × Indexed g index) × ((taken g (front g later) ≤ g.blocks) × Rules g (front g later))
    moved_writable =
        let O = moved_ordered in
        rw e (
          (record { allowed = A; long = O.long }, record { allowed = A; long = M.indexed }),
          (O.formed.header.taken_most, O.formed.rules),
        )

    pub moved_left : (written : List ℕ) → written ≡ index_of g (front g later)
        → gives (Done 0) [] (lent later written) ≡ gives (Done 0) [] (lent (moved_image g n image) (index_of g (moved_front g Two n)))
    moved_left written d = rw (d, e, moved_front_lem)

  -- ---- its bytes
  byte_past : (i : ℕ) → block_bytes g ≤ i → get_or (moved_image g n image) i 0 ≡ get_or copied i 0
  byte_past i h =
      let e : block_bytes g + (i - block_bytes g) ≡ i = omega arith in
      rw e at (sym (get_or-drop (block_bytes g) (moved_image g n image) (i - block_bytes g) 0) ∙ ap (λ xs. get_or xs (i - block_bytes g) 0) moved_data_lem ∙ get_or-drop (block_bytes g) copied (i - block_bytes g) 0)

  -- byte j of position p
  byte_at : k ≢ 0 → (p j : ℕ) → p < k → j < block_bytes g
      → get_or (moved_image g n image) (data_at g (block_of g u anonymous p) + j) 0 ≡ get_or image (p * block_bytes g + j) 0
  byte_at ne p j h l = go (ℕ_discrete p 0)
    where
      past : (b : ℕ) → get_or (moved_image g n image) (data_at g b + j) 0 ≡ get_or copied (data_at g b + j) 0
      past b = byte_past (data_at g b + j) (omega (arith, block_after_lem g b))

      go : Dec (p ≡ 0) → get_or (moved_image g n image) (data_at g (block_of g u anonymous p) + j) 0 ≡ get_or image (p * block_bytes g + j) 0
      go (yes e) = rw (e, moved_first g A Two n M.most ne, zero-mul (block_bytes g), zero-add j) (past (k - 1) ∙ data_last ne j l)
      go (no d) =
          let w : p - 1 + 1 ≡ p = omega arith in
          let q : data_at g (p - 1) ≡ p * block_bytes g = rw w in
          let m : (p + 1) * block_bytes g ≤ k * block_bytes g = mul-le-mul_right (block_bytes g) (omega arith) in
          let i : p * block_bytes g + j < k * block_bytes g = omega (arith, m, add-mul p 1 (block_bytes g), one-mul (block_bytes g)) in
          rw (moved_next g A Two n M.most p d h) (past (p - 1) ∙ rw q (data_before ne (p * block_bytes g + j) i))

  -- region 0 reads byte for byte as the old memory did
  pub moved_book : book_in g (moved_front g Two n) (moved_image g n image) anonymous ≡ take (n * g.page) image
  moved_book =
      let spans = book_spans g A n in
      let l = length-take-le (n * g.page) image (omega (arith, spans, enough, add-mul k 1 (block_bytes g), one-mul (block_bytes g))) in
      ext_get_or 0 (book_in g u (moved_image g n image) anonymous) (take (n * g.page) image)
      (length-loaded g (block_of g u anonymous) 0 (pages_of g u anonymous * g.page) (moved_image g n image) ∙ rw (moved_size_lem g A Two n M.most) (sym l))
      (λ i h.
      let b : i < pages_of g u anonymous * g.page = rw length-loaded at h in
      let c : i < n * g.page = rw (moved_size_lem g A Two n M.most) at b in
      get_or_whole g (block_of g u anonymous) (pages_of g u anonymous * g.page) (moved_image g n image) i b
      ∙ each i c (ℕ_discrete k 0) spans
      ∙ sym (get_or-take (n * g.page) image i 0 c))
    where
      each : (i : ℕ) → i < n * g.page → Dec (k ≡ 0) → n * g.page ≤ need g n * block_bytes g
          → get_or (moved_image g n image) (address_of g (block_of g u anonymous) i) 0 ≡ get_or image i 0
      each i c (yes e) spans = absurd (not-suc-le-zero (rw (none_needed g A n e, zero-mul g.page) at c))
      each i c (no ne) spans =
          let pos = block_positive g A in
          let p : i / block_bytes g < k = (div-lt_iff_lt-mul pos).1 (omega arith) in
          rw div-add-mod' at (byte_at ne (i / block_bytes g) (i % block_bytes g) p (mod-lt i pos))
