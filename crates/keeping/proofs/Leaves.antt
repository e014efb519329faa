-- What an accepted store leaves, byte by byte. Only the touched positions are known to be right, and that is enough.
use Prim.Native.Nat.{ℕ, ◌+◌, ◌-◌, ◌*◌, ◌/◌, ◌≤◌, ◌<◌}
use mathlib.Core.Logic.{◌≢◌, ◌⊎◌, ⊎_elim}
use mathlib.Core.Path.{◌≡◌, sym, ◌∙◌, ap}
use mathlib.Core.List.{List}
use native.Mathlib.Omega.{arith}
use native.Mathlib.Nat.{add-mul, div-mul-le_self}
use native.Mathlib.Decide.{ℕ_discrete, dec_le, dec_lt}
use lib.Arith.{digits_div}
use lib.ListN.{get_or, length, length-take}
use lib.Seq.{get_or-take, ext_get_or}
use Rattle.paper.specs.declared.Geometry.{Geometry}
use Rattle.paper.specs.Geometry.{block_bytes, Allowed, front_bytes, data_at}
use Rattle.paper.specs.Image.{front, owner, place, need_of}
use Rattle.paper.specs.Index.{block_in}
use Rattle.paper.specs.Calls.{stretch, stored}
use Rattle.paper.specs.Refusals.{touched}
use Rattle.rules.specs.Facts.{Reads}
use Rattle.rules.proofs.Touched.{touched_byte}
use Rattle.laws.proofs.Folds.{steps_ext}
use Rattle.keeping.proofs.Stored.{over, over_in, over_before, over_after, Stored, stored_all, stored_touched}
use Rattle.rules.specs.Touched.{first_touched, end_touched, Right}
use Rattle.rules.proofs.Right.{reads_need, reads_right, reads_within}

-- n bytes from offset o on stand at touched positions
pub position : (g : Geometry) → Allowed g → (o n p j : ℕ) → o ≤ p * block_bytes g + j → p * block_bytes g + j < o + n → j < block_bytes g
    → (first_touched g o ≤ p) × (p < end_touched g o n)
position g A o n p j lo hi h =
    let c = touched_byte g A o n (p * block_bytes g + j) lo hi in
    let e : (p * block_bytes g + j) / block_bytes g ≡ p = digits_div p h in
    (omega (arith, c.1, c.2), omega (arith, c.1, c.2))

-- x is left of image by a store of the bytes ys at offset o of region r
pub record Leaves (g : Geometry) (image index : List ℕ) (r o : ℕ) (ys x : List ℕ) : Type 0 where
  pub long : length x ≡ length image
  pub fronts : front g x ≡ front g image
  -- byte j of position p, where one was laid
  pub here : (p j : ℕ) → j < block_bytes g → o ≤ p * block_bytes g + j → p * block_bytes g + j < o + length ys
      → get_or x (data_at g (block_in g index r p) + j) 0 ≡ get_or ys (p * block_bytes g + j - o) 0
  -- and of any position that has its block, of this book or another, where none was
  pub other : (q p j : ℕ) → Right g (front g image) index q p → j < block_bytes g
      → (q ≡ r → (p * block_bytes g + j < o) ⊎ (o + length ys ≤ p * block_bytes g + j))
      → get_or x (data_at g (block_in g index q p) + j) 0 ≡ get_or image (data_at g (block_in g index q p) + j) 0

-- ---- the store, counted from its first touched position
shift : (o n q z : ℕ) → q ≤ o → (o - (q + z) ≡ o - q - z) × (o + n - (q + z) ≡ o - q + n - z) × (q + z - o ≡ z - (o - q))
shift o n q z h = (omega arith, omega arith, omega arith)

stretch_shift : (g : Geometry) (at : ℕ → ℕ) (o : ℕ) (ys : List ℕ) (k : ℕ) (x : List ℕ)
    → stretch g at o ys (first_touched g o + k) x ≡ stretch g (λ i. at (first_touched g o + i)) (o - first_touched g o * block_bytes g) ys k x
stretch_shift g at o ys k x =
    let f = first_touched g o in
    let w = block_bytes g in
    let s = shift o (length ys) (f * w) (k * w) (div-mul-le_self o w) in
    rw (add-mul f k w, s.0, s.1, s.2)

module _ (g : Geometry) (image index : List ℕ) (r o : ℕ) (ys : List ℕ) (R : Reads g image index r o (length ys)) where
  abbrev w : ℕ
  w = block_bytes g

  abbrev f : ℕ
  f = first_touched g o

  abbrev n : ℕ
  n = length ys

  abbrev t : List ℕ
  t = front g image

  -- the block at the k-th touched position
  abbrev at : ℕ → ℕ
  at k = block_in g index r (first_touched g o + k)

  abbrev x : List ℕ
  x = stored g (block_in g index r) (need_of g (front g image) r) o ys image

  A : Allowed g
  A = R.entered.geometry

  shifted : x ≡ stored g at (touched g o n) (o - f * w) ys image
  unfolding stored
  shifted =
      stored_touched g (block_in g index r) o ys A (need_of g t r) image (reads_need g image index r o n R)
      ∙ steps_ext (touched g o n) (λ k. stretch g (block_in g index r) o ys (f + k)) (stretch g at (o - f * w) ys) image (λ k y h. stretch_shift g (block_in g index r) o ys k y)

  right : (k : ℕ) → k < touched g o n → Right g t index r (f + k)
  right k h = reads_right g image index r o n R (f + k) (omega arith) (omega arith)

  S : Stored g at (o - f * w) ys image (touched g o n) x
  S =
      rw shifted
      (stored_all g at (o - f * w) ys image (touched g o n)
      (λ k h. reads_within g image index r o n R (f + k) (omega arith) (omega arith))
      (λ k l h j e. let z = sym (right k h).stands ∙ ap (place g t) e ∙ (right l j).stands in omega arith))

  same_front : front g x ≡ front g image
  same_front =
      ext_get_or 0 (front g x) (front g image) (simp (length-take, S.long))
      (λ i h.
      let l : i < front_bytes g = omega (arith, simp length-take at h) in
      get_or-take (front_bytes g) x i 0 l ∙ S.reserve i (omega (arith, A.reserve)) ∙ sym (get_or-take (front_bytes g) image i 0 l))

  -- byte j of a touched position
  module _ (p j : ℕ) (lo : f ≤ p) (hi : p < end_touched g o n) (h : j < block_bytes g) where
    laid : get_or x (data_at g (block_in g index r p) + j) 0 ≡ over (o - f * w) ys ((p - f) * w + j) (get_or image (data_at g (block_in g index r p) + j) 0)
    laid = let e : f + (p - f) ≡ p = omega arith in rw e at (S.here (p - f) j (omega arith) h)

    from_first : ((p - f) * w + f * w ≡ p * w) × (f * w ≤ o)
    from_first = let e : p - f + f ≡ p = omega arith in (sym (add-mul (p - f) f w) ∙ rw e, div-mul-le_self o w)

    new : o ≤ p * w + j → p * w + j < o + n → get_or x (data_at g (block_in g index r p) + j) 0 ≡ get_or ys (p * w + j - o) 0
    new a b =
        let d = from_first in
        let e : (p - f) * w + j - (o - f * w) ≡ p * w + j - o = omega (arith, d.0, d.1) in
        laid ∙ over_in (o - f * w) ys ((p - f) * w + j) _ (omega (arith, d.0, d.1)) (omega (arith, d.0, d.1)) ∙ rw e

    old : (p * w + j < o) ⊎ (o + n ≤ p * w + j) → get_or x (data_at g (block_in g index r p) + j) 0 ≡ get_or image (data_at g (block_in g index r p) + j) 0
    old c =
        let d = from_first in
        laid
        ∙ ⊎_elim
        (λ (a : p * w + j < o). over_before (o - f * w) ys ((p - f) * w + j) _ (omega (arith, d.0, d.1)))
        (λ (a : o + n ≤ p * w + j). over_after (o - f * w) ys ((p - f) * w + j) _ (omega (arith, d.0, d.1)))
        c

  -- byte j of a position that has its block
  module _ (q p j : ℕ) (Q : Right g t index q p) (h : j < block_bytes g) where
    abbrev Stays : Type 0
    Stays = get_or x (data_at g (block_in g index q p) + j) 0 ≡ get_or image (data_at g (block_in g index q p) + j) 0

    -- no touched position has this block: it is another book's, or that of another position
    elsewhere : ((k : ℕ) → k < touched g o n → block_in g index q p ≢ at k) → Stays
    elsewhere ne = S.other (block_in g index q p) j h ne

    untouched : ((k : ℕ) → k < touched g o n → p ≢ f + k) → Stays
    untouched ne = elsewhere (λ k l e. ne k l (sym Q.stands ∙ ap (place g t) e ∙ (right k l).stands))

    stays : (q ≡ r → (p * w + j < o) ⊎ (o + n ≤ p * w + j)) → Stays
    stays apart = go (ℕ_discrete q r) (dec_le f p) (dec_lt p (end_touched g o n))
      where
        go : Dec (q ≡ r) → Dec (first_touched g o ≤ p) → Dec (p < end_touched g o (length ys)) → Stays
        go (no ne) _ _ = elsewhere (λ k l e. ne (sym Q.owns ∙ ap (owner g t) e ∙ (right k l).owns))
        go (yes e) (yes lo) (yes hi) = rw e (old p j lo hi h (apart e))
        go (yes e) (no lo) _ = untouched (λ k l z. omega arith)
        go (yes e) (yes lo) (no hi) = untouched (λ k l z. omega arith)

  pub store_leaves : Leaves g image index r o ys (stored g (block_in g index r) (need_of g (front g image) r) o ys image)
  store_leaves = record {
    long = S.long;
    fronts = same_front;
    here = λ p j h lo hi. let c = position g A o n p j lo hi h in new p j c.0 c.1 h lo hi;
    other = λ q p j Q h apart. stays q p j Q h apart;
  }
