-- A front written from what stands in it reads back as that; and its parts, as they are written one after the other.
use Prim.Native.Nat.{ℕ, ◌+◌, ◌-◌, ◌*◌, ◌/◌, ◌^◌, ◌≤◌, ◌<◌}
use mathlib.Core.Bool.{Bool, true, false, cond}
use mathlib.Core.Logic.{◌⊎◌, inl, inr}
use mathlib.Core.Path.{◌≡◌, refl, sym, ◌∙◌, ap}
use mathlib.Core.List.{List, [], ◌++◌, append_assoc, append-nil}
use native.Mathlib.Omega.{arith}
use native.Mathlib.Nat.{div-eq_of_lt}
use lib.Dec.{eqb}
use lib.ListN.{drop, length, length-append}
use lib.Seq.{drop-drop, drop-append-add, drop_at}
use Rattle.laws.specs.Folds.{join_below}
use Rattle.laws.specs.Bytes.{value, num, le, splice, put}
use Rattle.laws.proofs.Lists.{length_rows, drop_rows, length-splice, splice_start, splice_then, splice_swap}
use Rattle.laws.proofs.Bytes.{length-le, value_le, le_join}
use Rattle.paper.specs.declared.Geometry.{Geometry}
use Rattle.paper.specs.Geometry.{header_bytes, marker_at, version_at, taken_at, counter_at, blank_at, version2, version3, size_bytes, entry_at, size_at, edition_at, front_bytes}
use Rattle.paper.specs.Image.{Size, coded, size_width, version_of, stamped, taken, counter, owner, place, size_of, edition_of, written_header, entry_row, size_row, written}
use Rattle.rules.specs.Facts.{fronted}
use Rattle.rules.proofs.Cells.{Codable, version3_width, width_most, decoded_coded, coded_fits}

-- ---- the lengths of its parts
pub length_header : (v n c : ℕ) → length (written_header v n c) ≡ header_bytes
unfolding written_header
length_header v n c = simp (length-append, length-le)

pub length_entry : (own pos : ℕ → ℕ) (b : ℕ) → length (entry_row own pos b) ≡ 4
unfolding entry_row
length_entry own pos b = simp (length-append, length-le)

pub length_size : (v : ℕ) (size : ℕ → Size) (r : ℕ) → length (size_row v size r) ≡ 8
unfolding size_row
length_size v size r = simp (length-append, length-le) (omega (arith, width_most v))

-- ---- its parts, number by number
pub header_put : (v n c : ℕ) (xs : List ℕ)
    → put 4 blank_at 0 (put 2 counter_at c (put 2 taken_at n (put 4 version_at v (put 4 marker_at 0 xs)))) ≡ splice 0 (written_header v n c) xs
unfolding written_header
header_put v n c xs =
    let to4 = le 4 0 in
    let to8 = to4 ++ le 4 v in
    let to10 = to8 ++ le 2 n in
    let to12 = to10 ++ le 2 c in
    rw (
      splice_then 0 version_at to4 (le 4 v) xs (simp length-le) (omega arith),
      splice_then 0 taken_at to8 (le 2 n) xs (simp (length-append, length-le)) (omega arith),
      splice_then 0 counter_at to10 (le 2 c) xs (simp (length-append, length-le)) (omega arith),
      splice_then 0 blank_at to12 (le 4 0) xs (simp (length-append, length-le)) (omega arith),
    )

pub entry_put : (own pos : ℕ → ℕ) (b at : ℕ) (xs : List ℕ) → at ≤ length xs
    → put 2 (at + 2) (pos b) (put 2 at (own b) xs) ≡ splice at (entry_row own pos b) xs
unfolding entry_row
entry_put own pos b at xs h = splice_then at (at + 2) (le 2 (own b)) (le 2 (pos b)) xs (rw length-le) h

-- a size with edition 0, in both halves at once
size_whole : (v : ℕ) (size : ℕ → Size) (r : ℕ) → Codable (size r) → le 8 (coded (size_width v) (size r)) ≡ size_row v size r
unfolding size_row
size_whole v size r k =
    let w = size_width v in
    let x = coded w (size r) in
    let all : w + (size_bytes - w) ≡ 8 = omega (arith, width_most v) in
    let high : x / 256 ^ w ≡ 0 = div-eq_of_lt (coded_fits v (size r) k) in
    rw high at (rw all at (le_join w (size_bytes - w) x))

pub size_put : (v : ℕ) (size : ℕ → Size) (r at : ℕ) (xs : List ℕ) → Codable (size r) → put 8 at (coded (size_width v) (size r)) xs ≡ splice at (size_row v size r) xs
size_put v size r at xs k = ap (λ (ys : List ℕ). splice at ys xs) (size_whole v size r k)

module _ (g : Geometry) (v n c : ℕ) (own pos : ℕ → ℕ) (size : ℕ → Size) where
  abbrev front : List ℕ
  front = written g v n c own pos size

  abbrev sizes : List ℕ
  sizes = join_below g.entries (size_row v size)

  abbrev entries : List ℕ
  entries = join_below g.blocks (entry_row own pos)

  length_entries : length entries ≡ g.blocks * 4
  length_entries = length_rows 4 (entry_row own pos) (length_entry own pos) g.blocks

  length_sizes : length sizes ≡ g.entries * 8
  length_sizes = length_rows 8 (size_row v size) (length_size v size) g.entries

  pub length-written : length (written g v n c own pos size) ≡ front_bytes g
  unfolding written
  length-written =
      simp (length-append, length_header v n c, length_entries, length_sizes) (omega arith)

  -- ---- header, then blocks, then regions
  in_order_lem : (xs : List ℕ) → splice (size_at g 0) sizes (splice header_bytes entries (splice 0 (written_header v n c) xs)) ≡ fronted g front xs
  unfolding written
  in_order_lem xs =
      let h = written_header v n c in
      let m : size_at g 0 ≡ 0 + length (h ++ entries) = rw (length-append, length_header v n c, length_entries) (omega arith) in
      rw (
        splice_then 0 header_bytes h entries xs (rw length_header) (omega arith),
        splice_then 0 (size_at g 0) (h ++ entries) sizes xs m (omega arith),
        append_assoc h entries sizes,
      )
      (splice_start (front_bytes g) front xs length-written)

  -- or the header last
  pub written_joined : (xs : List ℕ) → front_bytes g ≤ length xs
      → splice 0 (written_header v n c)
      (splice (size_at g 0) (join_below g.entries (size_row v size)) (splice header_bytes (join_below g.blocks (entry_row own pos)) xs))
      ≡ fronted g (written g v n c own pos size) xs
  written_joined xs fits =
      let h = written_header v n c in
      let k : header_bytes + length entries ≤ length xs = omega (arith, length_entries) in
      let l : size_at g 0 + length sizes ≤ length (splice header_bytes entries xs) = rw (length-splice header_bytes entries xs k) (omega (arith, length_sizes)) in
      splice_swap 0 (size_at g 0) h sizes (splice header_bytes entries xs) (rw length_header (omega arith)) l
      ∙ ap (splice (size_at g 0) sizes) (splice_swap 0 header_bytes h entries xs (rw length_header (omega arith)) k)
      ∙ in_order_lem xs

  -- ---- the header
  pub version_written : v < 256 ^ 4 → version_of g (written g v n c own pos size) ≡ v
  unfolding version_of written written_header num le
  version_written h = value_le 4 v (le 2 n ++ (le 2 c ++ (le 4 0 ++ (entries ++ sizes)))) h

  pub stamp_written : (v ≡ version2) ⊎ (v ≡ version3) → stamped g (written g v n c own pos size) ≡ true
  unfolding stamped version_of written written_header num value le
  stamp_written (inl e) = rw e
  stamp_written (inr e) = rw e

  pub taken_written : n < 65536 → taken g (written g v n c own pos size) ≡ n
  unfolding taken written written_header num le
  taken_written h = value_le 2 n (le 2 c ++ (le 4 0 ++ (entries ++ sizes))) h

  pub counter_written : c < 65536 → counter g (written g v n c own pos size) ≡ c
  unfolding counter written written_header num le
  counter_written h = value_le 2 c (le 4 0 ++ (entries ++ sizes)) h

  after_header : (k : ℕ) → drop (16 + k) front ≡ drop k (entries ++ sizes)
  unfolding written written_header le
  after_header k = sym (drop-drop k 16 front)

  -- ---- block b's entry
  module _ (b : ℕ) (h : b < g.blocks) where
    entry_at_lem : (y : List ℕ) × (drop (entry_at g b) front ≡ le 2 (own b) ++ (le 2 (pos b) ++ y))
    unfolding entry_row
    entry_at_lem =
        let d = drop_rows 4 (entry_row own pos) (length_entry own pos) g.blocks b sizes h in
        let e : b * 4 ≡ 4 * b = omega arith in
        (d.0, after_header (4 * b) ∙ (rw e at d.1) ∙ append_assoc (le 2 (own b)) (le 2 (pos b)) d.0)

    pub owner_written : own b < 65536 → owner g (written g v n c own pos size) b ≡ own b
    unfolding owner num
    owner_written l = let d = entry_at_lem in rw d.1 (value_le 2 (own b) (le 2 (pos b) ++ d.0) l)

    pub place_written : pos b < 65536 → place g (written g v n c own pos size) b ≡ pos b
    unfolding place num
    place_written l =
        let d = entry_at_lem in
        rw (← drop-drop 2 (entry_at g b) front, d.1, drop_at (le 2 (own b)) (le 2 (pos b) ++ d.0) 2 (length-le 2 (own b)))
        (value_le 2 (pos b) d.0 l)

  -- ---- region r's entry
  module _ (r : ℕ) (h : r < g.entries) where
    abbrev w : ℕ
    w = size_width v

    size_at_lem : (y : List ℕ) × (drop (size_at g r) front ≡ le w (coded w (size r)) ++ (le (size_bytes - w) 0 ++ y))
    unfolding size_row
    size_at_lem =
        let e : size_at g r ≡ 16 + (length entries + r * 8) = omega (arith, length_entries) in
        let d = drop_rows 8 (size_row v size) (length_size v size) g.entries r [] h in (
          d.0,
          rw e (after_header (length entries + r * 8) ∙ drop-append-add entries sizes (r * 8) ∙ (rw append-nil at d.1))
              ∙ append_assoc (le w (coded w (size r))) (le (size_bytes - w) 0) d.0,
        )

    module _ (small : v < 256 ^ 4) where
      pub size_written : Codable (size r) → size_of g (written g v n c own pos size) r ≡ size r
      unfolding size_of num
      size_written k =
          let d = size_at_lem in
          rw (version_written small, d.1, value_le w (coded w (size r)) (le (size_bytes - w) 0 ++ d.0) (coded_fits v (size r) k)) (decoded_coded v (size r) k)

      -- no book of it was released
      pub edition_written : edition_of g (written g v n c own pos size) r ≡ 0
      unfolding edition_of num
      edition_written = rw (version_written small) (go (eqb v version3) refl)
        where
          go : (b : Bool) → eqb v version3 ≡ b → cond b (value 4 (drop (edition_at g r) front)) 0 ≡ 0
          go true e =
              let d = size_at_lem in
              let x = version3_width v e in
              rw (
                ← drop-drop 4 (size_at g r) front,
                d.1,
                x,
                drop_at (le 4 (coded 4 (size r))) (le 4 0 ++ d.0) 4 (length-le 4 (coded 4 (size r))),
              )
              (value_le 4 0 d.0 (omega arith))
          go false e = refl
