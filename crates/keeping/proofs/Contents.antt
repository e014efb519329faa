-- What a host relies on, for every geometry, image and index: a load after a store gives the stored bytes back and every other byte as it
-- was; an empty load or store touches nothing; look shows what a load would give.
use Prim.Native.Nat.{ℕ, ◌+◌, ◌-◌, ◌*◌, ◌/◌, ◌%◌, ◌≤◌, ◌<◌}
use mathlib.Core.Logic.{◌≢◌, ◌⊎◌, inl, inr}
use mathlib.Core.Path.{◌≡◌, refl, sym, ◌∙◌, ap}
use mathlib.Core.List.{List, []}
use native.Mathlib.Omega.{arith}
use native.Mathlib.Nat.{add-zero, div-add-mod', mod-lt, div-mul-le_self, div-eq_of_lt-le}
use native.Mathlib.Decide.{ℕ_discrete}
use lib.IntN.{pos}
use lib.ListN.{get_or, length}
use lib.Seq.{ext_get_or}
use Rattle.laws.proofs.Folds.{all_none, steps_none}
use Rattle.paper.specs.declared.Geometry.{Geometry}
use Rattle.paper.specs.Answers.{Done}
use Rattle.paper.specs.Geometry.{block_bytes, Allowed, index_bytes}
use Rattle.paper.specs.Image.{front, pages_of, edition_of, need_of}
use Rattle.paper.specs.Index.{block_in}
use Rattle.paper.specs.Calls.{load, store, look, size, loaded, stored, look_bytes}
use Rattle.paper.specs.Refusals.{touched, touched_right, refusal}
use Rattle.paper.specs.Outcomes.{State, Outcome, lent, gives, outcome}
use Rattle.paper.proofs.Arithmetic.{block_positive}
use Rattle.rules.specs.Facts.{Reads}
use Rattle.rules.proofs.Touched.{touched_none, touched_some}
use Rattle.rules.proofs.Outcomes.{outcome_number, one_byte, look_empty, look_part}
use Rattle.keeping.proofs.Loaded.{length-loaded, get_or-loaded, loaded_none, loaded_same}
use Rattle.keeping.proofs.Stored.{stored_touched}
use Rattle.rules.proofs.Lines.{whole_entered, load_same, read_accepted, load_accepted, accepts_load, store_accepted, accepts_store, size_accepted, refused, load_done, store_done, size_done}
use Rattle.rules.proofs.Right.{reads_right, reads_need}
use Rattle.keeping.proofs.Leaves.{position, Leaves, store_leaves}

-- n bytes at offset i of book q are none of the m bytes at offset o of book r
abbrev pub Other : (r o m q i n : ℕ) → Type 0
Other r o m q i n = (q ≢ r) ⊎ ((i + n ≤ o) ⊎ (o + m ≤ i))

-- the answer and the bytes of the outcome o, with the image and index of s
abbrev pub AsBefore : Outcome → State → Outcome → Type 0
AsBefore o s o' = o' ≡ record { answer = o.answer; number = o.number; value = o.value; edition = o.edition; bytes = o.bytes; state = s }

-- ---- a load after a store
module _ (g : Geometry) (image index : List ℕ) (r o : ℕ) (ys x : List ℕ) (A : Allowed g) (L : Leaves g image index r o ys x) where
  -- the checks of a load see header, tables and index alone
  same_refusal : (q c i : ℕ) (b : List ℕ) → refusal g x index (load q c i b) ≡ refusal g image index (load q c i b)
  same_refusal q c i b = load_same g image x index q c i b (sym L.long) (sym L.fronts)

  given_back : loaded g (block_in g index r) o (length ys) x ≡ ys
  given_back =
      ext_get_or 0 (loaded g (block_in g index r) o (length ys) x) ys (length-loaded g (block_in g index r) o (length ys) x)
      (λ k l.
      let h : k < length ys = rw length-loaded at l in
      let w = block_bytes g in
      let p = (o + k) / w in
      let j = (o + k) % w in
      let e : p * w + j ≡ o + k = div-add-mod' (o + k) w in
      let d : p * w + j - o ≡ k = omega arith in
      get_or-loaded g (block_in g index r) o (length ys) x k h
      ∙ L.here p j (mod-lt (o + k) (block_positive g A)) (omega arith) (omega arith)
      ∙ ap (λ (z : ℕ). get_or ys z 0) d)

  kept : (q i n : ℕ) → Reads g image index q i n → Other r o (length ys) q i n
      → loaded g (block_in g index q) i n x ≡ loaded g (block_in g index q) i n image
  kept q i n Q d =
      loaded_same g A (block_in g index q) (block_in g index q) i n image x (λ p j lo hi h.
      let at = position g A i n p j lo hi h in
      L.other q p j (reads_right g image index q i n Q p at.0 at.1) h (λ e. apart p j lo hi e d))
    where
      apart : (p j : ℕ) → i ≤ p * block_bytes g + j → p * block_bytes g + j < i + n → q ≡ r → Other r o (length ys) q i n
          → (p * block_bytes g + j < o) ⊎ (o + length ys ≤ p * block_bytes g + j)
      apart p j lo hi e (inl ne) = absurd (ne e)
      apart p j lo hi e (inr (inl l)) = inl (omega arith)
      apart p j lo hi e (inr (inr l)) = inr (omega arith)

  unchanged : (q c i : ℕ) (b : List ℕ) → Other r o (length ys) q i (length b)
      → AsBefore (outcome g (load q c i b) (lent image index)) (lent x index) (outcome g (load q c i b) (lent x index))
  unchanged q c i b d = go (ℕ_discrete (refusal g image index (load q c i b)) 0)
    where
      go : Dec (refusal g image index (load q c i b) ≡ 0)
          → AsBefore (outcome g (load q c i b) (lent image index)) (lent x index) (outcome g (load q c i b) (lent x index))
      go (yes e) =
          rw (load_done g (lent x index) q c i b (same_refusal q c i b ∙ e), load_done g (lent image index) q c i b e)
          (ap (λ (zs : List ℕ). gives (Done 0) zs (lent x index)) (kept q i (length b) (load_accepted g image index q c i b e).0 d))
      go (no ne) =
          let k = refusal g image index (load q c i b) in
          rw (refused g (load q c i b) (lent x index) k (same_refusal q c i b) ne, refused g (load q c i b) (lent image index) k refl ne)

-- a load leaves image and index
load_state : (g : Geometry) (q c i : ℕ) (b : List ℕ) (s : State) → (outcome g (load q c i b) s).state ≡ s
load_state g q c i b s = go (ℕ_discrete (refusal g s.image s.index (load q c i b)) 0)
  where
    go : Dec (refusal g s.image s.index (load q c i b) ≡ 0) → (outcome g (load q c i b) s).state ≡ s
    go (yes e) = rw (load_done g s q c i b e)
    go (no ne) = rw (refused g (load q c i b) s (refusal g s.image s.index (load q c i b)) refl ne)

module _ (g : Geometry) (s : State) (r d o : ℕ) (bytes : List ℕ) where
  -- what the store leaves
  abbrev pub after_store : State
  after_store = (outcome g (store r d o bytes) s).state

  reads : refusal g s.image s.index (store r d o bytes) ≡ 0 → Reads g s.image s.index r o (length bytes)
  reads e = (store_accepted g s.image s.index r d o bytes e).0

  left : refusal g s.image s.index (store r d o bytes) ≡ 0
      → (x : List ℕ) × (Leaves g s.image s.index r o bytes x) × (after_store ≡ lent x s.index)
  left e = (_, store_leaves g s.image s.index r o bytes (reads e), ap (λ z. z.state) (store_done g s r d o bytes e))

  -- a load after a store of the same bytes gives them back
  pub load_after_store : (b : List ℕ) → length b ≡ length bytes → (outcome g (store r d o bytes) s).number ≡ 0
      → outcome g (load r d o b) after_store ≡ gives (Done 0) bytes after_store
  load_after_store b l z =
      let e = sym (outcome_number g (store r d o bytes) s) ∙ z in
      let A = (reads e).entered.geometry in
      let x = (left e).0 in
      let L = (left e).1 in
      let k = same_refusal g s.image s.index r o bytes x A L r d o b
      ∙ accepts_load g s.image s.index r d o b (rw l (reads e)) (store_accepted g s.image s.index r d o bytes e).1 in
      rw ((left e).2, load_done g (lent x s.index) r d o b k, l, given_back g s.image s.index r o bytes x A L)

  -- a load of other bytes of that book, or of any other book, is not changed by the store
  pub load_unchanged : (q c i : ℕ) (b : List ℕ) → Other r o (length bytes) q i (length b)
      → AsBefore (outcome g (load q c i b) s) after_store (outcome g (load q c i b) after_store)
  load_unchanged q c i b other = go (ℕ_discrete (refusal g s.image s.index (store r d o bytes)) 0)
    where
      go : Dec (refusal g s.image s.index (store r d o bytes) ≡ 0) → AsBefore (outcome g (load q c i b) s) after_store (outcome g (load q c i b) after_store)
      go (yes e) = rw (left e).2 (unchanged g s.image s.index r o bytes (left e).0 (reads e).entered.geometry (left e).1 q c i b other)
      go (no ne) =
          rw (ap (λ z. z.state) (refused g (store r d o bytes) s (refusal g s.image s.index (store r d o bytes)) refl ne))
          (ap (λ z. let o = outcome g (load q c i b) s in record { answer = o.answer; number = o.number; value = o.value; edition = o.edition; bytes = o.bytes; state = z }) (load_state g q c i b s))

-- ---- a load or store of no bytes, at any offset up to the end of a book whose size is answered: it is done, whatever the index says, and
-- touches nothing
module _ (g : Geometry) (s : State) (r d : ℕ) (sized : (outcome g (size r d) s).number ≡ 0) (indexed : length s.index ≡ index_bytes g)
    (pages : ℕ) (told : (outcome g (size r d) s).value ≡ pos pages) (o : ℕ) (within : o ≤ pages * g.page) where
  abbrev t : List ℕ
  t = front g s.image

  fine : refusal g s.image s.index (size r d) ≡ 0
  fine = sym (outcome_number g (size r d) s) ∙ sized

  pages_told : pages ≡ pages_of g t r
  pages_told = let z : pos pages ≡ pos (pages_of g t r) = sym told ∙ ap (λ o. o.value) (size_done g s r d fine) in cc

  none : Reads g s.image s.index r o 0
  unfolding touched_right
  none =
      let f = size_accepted g s.image s.index r d fine in
      record {
        entered = whole_entered g s.image s.index f.0 indexed;
        usable = f.1.usable;
        fits = f.2;
        within = rw (add-zero, ← pages_told) within;
        right = rw (touched_none g o 0 refl) (all_none _);
      }

  named : edition_of g t r ≡ d
  named = (size_accepted g s.image s.index r d fine).1.edition

  pub empty_load : outcome g (load r d o []) s ≡ gives (Done 0) [] s
  empty_load = rw (load_done g s r d o [] (accepts_load g s.image s.index r d o [] none named), loaded_none g (block_in g s.index r) o s.image)

  pub empty_store : outcome g (store r d o []) s ≡ gives (Done 0) [] s
  empty_store =
      let e = accepts_store g s.image s.index r d o [] none named in
      let z : stored g (block_in g s.index r) (need_of g t r) o [] s.image ≡ s.image
      = stored_touched g (block_in g s.index r) o [] none.entered.geometry (need_of g t r) s.image (reads_need g s.image s.index r o 0 none)
      ∙ rw (touched_none g o 0 refl) (steps_none _ s.image) in
      rw (store_done g s r d o [] e, z)

-- ---- look and load
-- bytes that end in the block where they begin touch one position
one_block : (g : Geometry) → Allowed g → (o n : ℕ) → n ≢ 0 → o + n ≤ (o / block_bytes g + 1) * block_bytes g → touched g o n ≡ touched g o 1
one_block g A o n ne h =
    let w = block_bytes g in
    let b = div-mul-le_self o w in
    let u : (o + n - 1) / w ≡ o / w = div-eq_of_lt-le w {m = o + n - 1} (omega arith) (omega arith) in
    let v : (o + 1 - 1) / w ≡ o / w = ap (λ (k : ℕ). k / w) (omega arith) in
    omega (arith, touched_some g o n ne, touched_some g o 1 (λ e. omega arith))

-- where look's part is not empty, a load of so many bytes gives it
pub look_load : (g : Geometry) (s : State) (r d o : ℕ) (b : List ℕ) → (outcome g (look r d o) s).bytes ≢ [] → length b ≡ length (outcome g (look r d o) s).bytes
    → outcome g (load r d o b) s ≡ gives (Done 0) (outcome g (look r d o) s).bytes s
unfolding touched_right
look_load g s r d o b ne l = go (ℕ_discrete (one_byte g r d o s) 0)
  where
    go : Dec (one_byte g r d o s ≡ 0) → outcome g (load r d o b) s ≡ gives (Done 0) (outcome g (look r d o) s).bytes s
    go (no ne') = absurd (ne (look_empty g r d o s ne'))
    go (yes e) =
        let f = read_accepted g s.image s.index r d o 1 e in
        let R = f.0 in
        let at = block_in g s.index r in
        let part = look_part g r d o s e in
        let k : length b ≡ look_bytes g (front g s.image) r o = l ∙ ap length part ∙ length-loaded g at o _ s.image in
        let some : length b ≢ 0 = λ z. ne (part ∙ rw (sym k ∙ z) (loaded_none g at o s.image)) in
        let t = one_block g R.entered.geometry o (length b) some (omega (arith, R.within)) in
        let E = accepts_load g s.image s.index r d o b (record {
          entered = R.entered;
          usable = R.usable;
          fits = R.fits;
          within = omega (arith, R.within);
          right = rw t R.right;
        })
        f.1 in
        rw (load_done g s r d o b E, k) (ap (λ (zs : List ℕ). gives (Done 0) zs s) (sym part))
