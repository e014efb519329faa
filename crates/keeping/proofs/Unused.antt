-- The rest of the reserve, between the tables and its end: no call but lay changes it, and no call but recovery looks at it.
use Prim.Native.Nat.{ℕ, zero, suc, ◌+◌, ◌-◌, ◌*◌, ◌/◌, ◌≤◌, min}
use mathlib.Core.Bool.{Bool, true, false, cond}
use mathlib.Core.Path.{◌≡◌, refl, sym, ◌∙◌, ap}
use mathlib.Core.List.{List, [], ◌∷◌, ◌++◌}
use native.Mathlib.Omega.{arith}
use native.Mathlib.Decide.{ℕ_discrete}
use lib.Dec.{eqb}
use lib.ListN.{take, drop, get_or, length, replicate, length-append, length-drop}
use lib.Seq.{get_or-drop, length-take-le, take-take, take_at, drop_at}
use Rattle.laws.specs.Folds.{steps}
use Rattle.laws.specs.Bytes.{splice}
use Rattle.laws.proofs.Tests.{clash}
use Rattle.laws.proofs.Lists.{list_from_ext, splice_late}
use Rattle.paper.specs.declared.Geometry.{Geometry}
use Rattle.paper.specs.Geometry.{block_bytes, Allowed, capacity, front_bytes, data_at}
use Rattle.paper.specs.Image.{front, rest, unused, data_of, pages_of, need_of, block_of}
use Rattle.paper.specs.Index.{block_in, index_of}
use Rattle.paper.specs.Calls.{Call, lay, «open», grow, load, store, look, size, release, recover, opened, address_of, loaded, stretch, stored, grown_front, grown, look_bytes, released}
use Rattle.paper.specs.Refusals.{refusal}
use Rattle.paper.specs.Outcomes.{State, lent, outcome}
use Rattle.paper.proofs.Arithmetic.{block_after_lem, capacity_blocks}
use Rattle.rules.specs.Lines.{read_no}
use Rattle.rules.specs.Unused.{blanks, inspects, Alike, SeenAlike}
use Rattle.rules.proofs.Cells.{front_joined, length_joined}
use Rattle.rules.proofs.Parts.{unused_joined, data_of_joined}
use Rattle.rules.proofs.Usable.{usable_facts}
use Rattle.rules.proofs.Lines.{open_accepted, grow_accepted, release_accepted, store_accepted, load_number, load_same, line_same, refused, lay_done, open_done, grow_done, release_done, load_done, store_done, look_done, size_done, recover_done}
use Rattle.keeping.proofs.Grow.{grown_front_to}
use Rattle.keeping.proofs.Open.{open_next}
use Rattle.keeping.proofs.Release.{released_as}

-- ---- writes into the data
-- f changes nothing before the data, and the data by the data alone
record Beyond (g : Geometry) (f : List ℕ → List ℕ) : Type 0 where
  long : (x : List ℕ) → block_bytes g ≤ length x → block_bytes g ≤ length (f x)
  reserve : (x : List ℕ) → block_bytes g ≤ length x → take (block_bytes g) (f x) ≡ take (block_bytes g) x
  blocks : (x y : List ℕ) → block_bytes g ≤ length x → block_bytes g ≤ length y → data_of g x ≡ data_of g y → data_of g (f x) ≡ data_of g (f y)

module _ (g : Geometry) where
  abbrev bb : ℕ
  bb = block_bytes g

  splice_beyond : (at : ℕ) (ys : List ℕ) → bb ≤ at → Beyond g (splice at ys)
  splice_beyond at ys h = record {
    long = λ x l. rw (parts x, length-append (take bb x) (tail x), length-take-le bb x l) (omega arith);
    reserve = λ x l. rw (parts x) (take_at (take bb x) (tail x) bb (length-take-le bb x l));
    blocks = λ x y l m e. left x l ∙ ap (splice (at - bb) ys) e ∙ sym (left y m);
  }
    where
      tail : List ℕ → List ℕ
      tail x = splice (at - bb) ys (drop bb x)

      parts : (x : List ℕ) → splice at ys x ≡ take bb x ++ splice (at - bb) ys (drop bb x)
      parts x = splice_late bb at ys x h

      left : (x : List ℕ) → bb ≤ length x → data_of g (splice at ys x) ≡ splice (at - bb) ys (data_of g x)
      left x l = rw (parts x) (drop_at (take bb x) (splice (at - bb) ys (drop bb x)) bb (length-take-le bb x l))

  steps_beyond : (n : ℕ) (f : ℕ → List ℕ → List ℕ) → ((k : ℕ) → Beyond g (f k)) → Beyond g (steps n f)
  unfolding steps
  steps_beyond zero f B = record { long = λ x l. l; reserve = λ x l. refl; blocks = λ x y l m e. e }
  steps_beyond (suc n) f B =
      let S = steps_beyond n f B in
      record {
        long = λ x l. (B n).long (steps n f x) (S.long x l);
        reserve = λ x l. (B n).reserve (steps n f x) (S.long x l) ∙ S.reserve x l;
        blocks = λ x y l m e. (B n).blocks (steps n f x) (steps n f y) (S.long x l) (S.long y m) (S.blocks x y l m e);
      }

  stored_beyond : (at : ℕ → ℕ) (k o : ℕ) (ys : List ℕ) → Beyond g (stored g at k o ys)
  unfolding stored
  stored_beyond at k o ys =
      steps_beyond k (stretch g at o ys) (λ p.
      splice_beyond (data_at g (at p) + min (o - p * bb) bb) _ (omega (arith, block_after_lem g (at p))))

-- ---- what a call does to an image: the rest of the reserve stays, and images that differ there alone still do
record Around (g : Geometry) (f : List ℕ → List ℕ) : Type 0 where
  long : (x : List ℕ) → block_bytes g ≤ length x → block_bytes g ≤ length (f x)
  stays : (x : List ℕ) → block_bytes g ≤ length x → unused g (f x) ≡ unused g x
  alike : (x y : List ℕ) → block_bytes g ≤ length x → Alike g x y → Alike g (f x) (f y)

alike_long : (g : Geometry) (x y : List ℕ) → block_bytes g ≤ length x → Alike g x y → block_bytes g ≤ length y
alike_long g x y l a = omega (arith, a.lengths)

-- one after the other, and one that is left out where b says so
around_then : (g : Geometry) (f h : List ℕ → List ℕ) → Around g f → Around g h → Around g (λ x. h (f x))
around_then g f h F H = record {
  long = λ x l. H.long (f x) (F.long x l);
  stays = λ x l. H.stays (f x) (F.long x l) ∙ F.stays x l;
  alike = λ x y l a. H.alike (f x) (f y) (F.long x l) (F.alike x y l a);
}

around_unless : (g : Geometry) (b : Bool) (f : List ℕ → List ℕ) → Around g f → Around g (λ x. cond b x (f x))
around_unless g true f F = record { long = λ x l. l; stays = λ x l. refl; alike = λ x y l a. a }
around_unless g false f F = F

module _ (g : Geometry) (A : Allowed g) where
  -- the data written
  around_beyond : (f : List ℕ → List ℕ) → Beyond g f → Around g f
  around_beyond f B = record {
    long = B.long;
    stays = λ x l. ap (drop (front_bytes g)) (B.reserve x l);
    alike = λ x y l a.
        let m = alike_long g x y l a in
        let d = B.blocks x y l m a.blocks in
        record {
          fronts = same_front x l ∙ a.fronts ∙ sym (same_front y m);
          blocks = d;
          lengths = omega (arith, B.long x l, B.long y m, simp length-drop at (ap length d));
        };
  }
    where
      same_front : (x : List ℕ) → block_bytes g ≤ length x → front g (f x) ≡ front g x
      same_front x l =
          sym (take-take (front_bytes g) (block_bytes g) (f x) A.reserve) ∙ ap (take (front_bytes g)) (B.reserve x l)
          ∙ take-take (front_bytes g) (block_bytes g) x A.reserve

  -- the tables written
  around_joined : (u : List ℕ) → length u ≡ front_bytes g → Around g (λ x. u ++ rest g x)
  around_joined u full = record {
    long = λ x l. omega (arith, as_long x l);
    stays = λ x l. unused_joined g A x l u full;
    alike = λ x y l a.
        let m = alike_long g x y l a in
        record {
          fronts = front_joined g u x full ∙ sym (front_joined g u y full);
          blocks = data_of_joined g A x l u full ∙ a.blocks ∙ sym (data_of_joined g A y m u full);
          lengths = as_long x l ∙ a.lengths ∙ sym (as_long y m);
        };
  }
    where
      as_long : (x : List ℕ) → block_bytes g ≤ length x → length (u ++ rest g x) ≡ length x
      as_long x l = length_joined g u x full (omega (arith, A.reserve))

-- ---- each call that writes, accepted where x and an index were lent
module _ (g : Geometry) (x index : List ℕ) where
  abbrev t : List ℕ
  t = front g x

  open_around : refusal g x index «open» ≡ 0 → (block_bytes g ≤ length x) × Around g (λ y. opened g (front g x) ++ rest g y)
  open_around e =
      let a = open_accepted g x index e in
      let O = a.0 in
      let W = open_next g O.geometry (capacity g (length x)) t O.formed a.1 in
      (O.long, around_joined g O.geometry (opened g t) W.formed.full)

  release_around : (r d : ℕ) → refusal g x index (release r d) ≡ 0 → (block_bytes g ≤ length x) × Around g (λ y. released g r (front g x) ++ rest g y)
  release_around r d e =
      let a = release_accepted g x index r d e in
      let O = a.0 in
      let W = released_as g O.geometry (capacity g (length x)) t O.formed r (usable_facts g t r a.1.usable).2 a.2 in
      (O.long, around_joined g O.geometry (released g r t) W.formed.full)

  store_around : (r d o : ℕ) (ys : List ℕ) → refusal g x index (store r d o ys) ≡ 0
      → (block_bytes g ≤ length x) × Around g (stored g (block_in g index r) (need_of g (front g x) r) o ys)
  store_around r d o ys e =
      let E = (store_accepted g x index r d o ys e).0.entered in
      (E.long, around_beyond g E.geometry (stored g (block_in g index r) (need_of g t r) o ys) (stored_beyond g (block_in g index r) (need_of g t r) o ys))

  -- `grown`, of any image by the tables t
  abbrev grown_by : ℕ → ℕ → List ℕ → List ℕ → List ℕ
  grown_by r n t y =
      let u = grown_front g r n t in
      cond (eqb n 0) y (stored g (block_of g u r) (need_of g u r) (pages_of g t r * g.page) (replicate (n * g.page) 0) (u ++ rest g y))

  grow_around : (r d n : ℕ) → refusal g x index (grow r d n) ≡ 0 → (block_bytes g ≤ length x) × Around g (grown_by r n (front g x))
  grow_around r d n e =
      let a = grow_accepted g x index r d n e in
      let O = a.0 in
      let f = usable_facts g t r a.1.usable in
      let u = grown_front g r n t in
      let W = grown_front_to g O.geometry (capacity g (length x)) (capacity_blocks g (length x)) r f.0 t O.formed f.2 n a.2 in
      let zeroed = stored g (block_of g u r) (need_of g u r) (pages_of g t r * g.page) (replicate (n * g.page) 0) in
      let S = stored_beyond g (block_of g u r) (need_of g u r) (pages_of g t r * g.page) (replicate (n * g.page) 0) in
      let joined = around_joined g O.geometry u W.formed.full in
      (O.long, around_unless g (eqb n 0) (λ y. zeroed (u ++ rest g y)) (around_then g (λ y. u ++ rest g y) zeroed joined (around_beyond g O.geometry zeroed S)))

-- ---- no call but lay changes it
module _ (g : Geometry) (s : State) where
  accepted_stays : (c : Call) → blanks c ≡ false → refusal g s.image s.index c ≡ 0 → unused g (outcome g c s).state.image ≡ unused g s.image
  unfolding grown
  accepted_stays (lay v) ne e = clash true refl ne
  accepted_stays «open» ne e = let a = open_around g s.image s.index e in rw (open_done g s e) (a.1.stays s.image a.0)
  accepted_stays (grow r c n) ne e = let a = grow_around g s.image s.index r c n e in rw (grow_done g s r c n e) (a.1.stays s.image a.0)
  accepted_stays (load r c o b) ne e = rw (load_done g s r c o b e)
  accepted_stays (store r c o ys) ne e =
      let a = store_around g s.image s.index r c o ys e in rw (store_done g s r c o ys e) (a.1.stays s.image a.0)
  accepted_stays (look r c o) ne e = rw (look_done g s r c o e)
  accepted_stays (size r c) ne e = rw (size_done g s r c e)
  accepted_stays (release r c) ne e = let a = release_around g s.image s.index r c e in rw (release_done g s r c e) (a.1.stays s.image a.0)
  accepted_stays recover ne e = rw (recover_done g s e)

  pub unused_kept : (c : Call) → blanks c ≡ false → unused g (outcome g c s).state.image ≡ unused g s.image
  unused_kept c ne = go (ℕ_discrete (refusal g s.image s.index c) 0)
    where
      go : Dec (refusal g s.image s.index c ≡ 0) → unused g (outcome g c s).state.image ≡ unused g s.image
      go (yes e) = accepted_stays c ne e
      go (no d) = rw (refused g c s (refusal g s.image s.index c) refl d)

-- ---- no call but recovery looks at it
module _ (g : Geometry) (x y index : List ℕ) (a : Alike g x y) where
  -- a book's bytes are data
  loaded_alike : (at : ℕ → ℕ) (o n : ℕ) → loaded g at o n x ≡ loaded g at o n y
  unfolding loaded
  loaded_alike at o n =
      list_from_ext n o (λ i. get_or x (address_of g at i) 0) (λ i. get_or y (address_of g at i) 0) (λ i lo hi. byte (address_of g at i) (omega (arith, block_after_lem g (at (i / block_bytes g)))))
    where
      byte : (i : ℕ) → block_bytes g ≤ i → get_or x i 0 ≡ get_or y i 0
      byte i l =
          let e : block_bytes g + (i - block_bytes g) ≡ i = omega arith in
          rw e at (sym (get_or-drop (block_bytes g) x (i - block_bytes g) 0) ∙ ap (λ xs. get_or xs (i - block_bytes g) 0) a.blocks ∙ get_or-drop (block_bytes g) y (i - block_bytes g) 0)

  read_alike : (r c o : ℕ) → read_no g x index r c o 1 ≡ read_no g y index r c o 1
  read_alike r c o =
      sym (load_number g x index r c o (0 ∷ [])) ∙ sym (load_same g x y index r c o (0 ∷ []) a.lengths a.fronts) ∙ load_number g y index r c o (0 ∷ [])

  abbrev s : State
  s = lent x index

  abbrev s' : State
  s' = lent y index

  accepted_alike : (c : Call) → inspects c ≡ false → refusal g x index c ≡ 0 → refusal g y index c ≡ 0 → SeenAlike g (outcome g c s) (outcome g c s')
  unfolding grown
  accepted_alike (lay v) ne e d =
      rw (lay_done g s v e, lay_done g s' v d, a.fronts, a.blocks)
      (record { answer = refl; bytes = refl; image = record { fronts = refl; blocks = refl; lengths = refl }; index = refl })
  accepted_alike «open» ne e d =
      let w = open_around g x index e in
      rw (open_done g s e, open_done g s' d, ← a.fronts) (record { answer = refl; bytes = refl; image = w.1.alike x y w.0 a; index = refl })
  accepted_alike (grow r c n) ne e d =
      let w = grow_around g x index r c n e in
      let k = w.1.alike x y w.0 a in
      rw (grow_done g s r c n e, grow_done g s' r c n d, ← a.fronts) (record { answer = refl; bytes = refl; image = k; index = ap (index_of g) k.fronts })
  accepted_alike (load r c o b) ne e d =
      rw (load_done g s r c o b e, load_done g s' r c o b d) (record { answer = refl; bytes = loaded_alike (block_in g index r) o (length b); image = a; index = refl })
  accepted_alike (store r c o ys) ne e d =
      let w = store_around g x index r c o ys e in
      rw (store_done g s r c o ys e, store_done g s' r c o ys d, ← a.fronts) (record { answer = refl; bytes = refl; image = w.1.alike x y w.0 a; index = refl })
  accepted_alike (look r c o) ne e d =
      rw (look_done g s r c o e, look_done g s' r c o d, ← a.fronts, ← read_alike r c o, ← loaded_alike (block_in g index r) o (look_bytes g (front g x) r o))
      (record { answer = refl; bytes = refl; image = a; index = refl })
  accepted_alike (size r c) ne e d =
      rw (size_done g s r c e, size_done g s' r c d) (record { answer = rw a.fronts; bytes = refl; image = a; index = refl })
  accepted_alike (release r c) ne e d =
      let w = release_around g x index r c e in
      rw (release_done g s r c e, release_done g s' r c d, ← a.fronts) (record { answer = refl; bytes = refl; image = w.1.alike x y w.0 a; index = refl })
  accepted_alike recover ne e d = clash true refl ne

  pub unused_unseen : (c : Call) → inspects c ≡ false → SeenAlike g (outcome g c (lent x index)) (outcome g c (lent y index))
  unused_unseen c ne = go (ℕ_discrete (refusal g x index c) 0)
    where
      same : refusal g y index c ≡ refusal g x index c
      same = line_same g x y index c ne a.lengths a.fronts

      go : Dec (refusal g x index c ≡ 0) → SeenAlike g (outcome g c (lent x index)) (outcome g c (lent y index))
      go (yes e) = accepted_alike c ne e (same ∙ e)
      go (no d) =
          rw (refused g c s (refusal g x index c) refl d, refused g c s' (refusal g x index c) same d)
          (record { answer = refl; bytes = refl; image = a; index = refl })
