-- Stale book numbers: in version 3 the name of a released book is dead for ever, and no two opens give the same name.
use Prim.Native.Nat.{ℕ, ◌*◌, ◌≤◌, ◌<◌}
use mathlib.Core.Bool.{Bool, true, false, cond}
use mathlib.Core.Logic.{◌≢◌, ◌⊎◌, inl, inr}
use mathlib.Core.Path.{◌≡◌, refl, sym, ◌∙◌}
use mathlib.Core.List.{List, [], ◌∷◌, ◌++◌}
use native.Mathlib.Omega.{arith}
use native.Mathlib.Decide.{ℕ_discrete}
use borrow.Author.Tests.{eq-eqb, ne_eqb}
use lib.Dec.{eqb}
use lib.ListN.{length, replicate}
use Rattle.laws.specs.Bytes.{splice}
use Rattle.paper.specs.declared.Geometry.{Geometry}
use Rattle.paper.specs.Answers.{Answer, Done, Opened, Refused}
use Rattle.paper.specs.Geometry.{version3}
use Rattle.paper.specs.Image.{front}
use Rattle.paper.specs.Calls.{Call, lay, «open», grow, load, store, look, size, release, recover}
use Rattle.paper.specs.Refusals.{callable}
use Rattle.paper.specs.Outcomes.{State, opening, outcome}
use Rattle.rules.proofs.Facts.{open_below}
use Rattle.rules.proofs.Usable.{usable_facts}
use Rattle.rules.proofs.Lines.{release_accepted, only_open}
use Rattle.history.specs.History.{Book, absent, holding, by_name, struck, having, Model, counted, Moment, longer, written, noted, next, after, Agrees, Start, Dead, StaleForEver, GivenOnce}
use Rattle.history.proofs.Sound.{Sound, having_here, having_else, sound_next}
use Rattle.history.proofs.Seen.{never, sound_agrees}
use Rattle.history.proofs.Demand3.{not_refused, sound_laid, sound_recovered}

-- another answer
other_answer : {A : Type 0} (k n : ℕ) → Refused k ≡ Done n → A
other_answer k n e = let z : ◌≡◌ {A = ℕ} 0 1 = cc in absurd (omega arith)

-- a name that was given: its region's releases count more, or its book is there
abbrev There : Model → ℕ → ℕ → Type 0
There m r e = (xs : List ℕ) × (m.books r ≡ holding e xs)

abbrev Spent : Model → ℕ → ℕ → Type 0
Spent m r e = (e < m.editions r) ⊎ There m r e

module _ (g : Geometry) (bytes r e : ℕ) where
  -- ---- one call
  module _ (s : State) (m : Model) (S : Sound g bytes s m) (three : m.version ≡ version3) where
    A : Agrees g bytes s m
    A = sound_agrees g bytes s m S

    -- what a release counts
    raised : (q : ℕ) → m.editions r ≤ counted q m r
    raised q = go (ℕ_discrete r q)
      where
        go : Dec (r ≡ q) → m.editions r ≤ counted q m r
        go (yes d) = rw (eq-eqb r q d, three, ← d) (omega arith)
        go (no d) = rw (ne_eqb r q d) (omega arith)

    -- no count falls, and the version stays
    rises : (c : Call) (a : Answer) → (outcome g c s).answer ≡ a → ((noted g c a m).version ≡ version3) × (m.editions r ≤ (noted g c a m).editions r)
    unfolding noted
    rises c (Refused k) z = (three, omega arith)
    rises c (Opened q x) z = (three, omega arith)
    rises (lay v) (Done n) z = other_answer 12 n (sym (A.lays_not v) ∙ z)
    rises «open» (Done n) z = (three, omega arith)
    rises (grow q x k) (Done n) z = (three, omega arith)
    rises (load q x o b) (Done n) z = (three, omega arith)
    rises (store q x o b) (Done n) z = (three, omega arith)
    rises (look q x o) (Done n) z = (three, omega arith)
    rises (size q x) (Done n) z = (three, omega arith)
    rises (release q x) (Done n) z = (three, raised q)
    rises recover (Done n) z = (three, omega arith)

    -- ---- a book that is there stays there
    module _ (xs : List ℕ) (h : m.books r ≡ holding e xs) where
      -- where region q's becomes this one, if that is of the same edition
      still : (q : ℕ) (book : Book) → (r ≡ q → (zs : List ℕ) × (book ≡ holding e zs)) → (zs : List ℕ) × (having q book m.books r ≡ holding e zs)
      still q book f = go (ℕ_discrete r q)
        where
          go : Dec (r ≡ q) → (zs : List ℕ) × (having q book m.books r ≡ holding e zs)
          go (yes d) = let p = f d in (p.0, rw d (having_here q book m.books ∙ p.1))
          go (no d) = (xs, having_else q book m.books r d ∙ h)

      -- as a call leaves it, whatever edition it names
      renamed : (x : ℕ) (f : List ℕ → List ℕ) (q : ℕ) → r ≡ q → (zs : List ℕ) × (by_name x f (m.books q) ≡ holding e zs)
      renamed x f q d = (cond (eqb e x) (f xs) xs, rw (← d, h))

      -- a release of it counts it out
      released : (q x n : ℕ) → Spent (noted g (release q x) (Done n) m) r e
      unfolding noted
      released q x n = go (ℕ_discrete r q) (ℕ_discrete e x)
        where
          go : Dec (r ≡ q) → Dec (e ≡ x) → Spent (noted g (release q x) (Done n) m) r e
          go (yes d) (yes c) = inl (rw (eq-eqb r q d, three, ← d) (omega (arith, A.current r e xs h)))
          go (yes d) (no c) = inr (still q (struck x (m.books q)) (λ z. (xs, rw (← d, h, ne_eqb e x c))))
          go (no d) _ = inr (xs, having_else q (struck x (m.books q)) m.books r d ∙ h)

      -- an open gives a region that has no book
      not_opened : (q x : ℕ) → (outcome g «open» s).answer ≡ opening q x → r ≢ q
      not_opened q x z d = never e xs (sym h ∙ rw d (A.opens q x z).2)

      there : (c : Call) (a : Answer) → (outcome g c s).answer ≡ a → Spent (noted g c a m) r e
      unfolding noted
      there c (Refused k) z = inr (xs, h)
      there c (Opened q x) z =
          let d = not_opened q.0 x.0 (rw (only_open g c s q.0 x.0 z) at z) in
          inr (xs, having_else q.0 (holding x.0 []) m.books r d ∙ h)
      there (lay v) (Done n) z = other_answer 12 n (sym (A.lays_not v) ∙ z)
      there «open» (Done n) z = inr (xs, h)
      there (grow q x k) (Done n) z = inr (still q (longer g x k (m.books q)) (renamed x (λ ys. ys ++ replicate (k * g.page) 0) q))
      there (load q x o b) (Done n) z = inr (xs, h)
      there (store q x o b) (Done n) z = inr (still q (written g x o b (m.books q)) (renamed x (splice o b) q))
      there (look q x o) (Done n) z = inr (xs, h)
      there (size q x) (Done n) z = inr (xs, h)
      there (release q x) (Done n) z = released q x n
      there recover (Done n) z = inr (xs, h)

    spent_next : Spent m r e → (c : Call) → Spent (noted g c (outcome g c s).answer m) r e
    spent_next (inl l) c = inl (omega (arith, (rises c (outcome g c s).answer refl).1))
    spent_next (inr h) c = there h.0 h.1 c (outcome g c s).answer refl

    -- ---- a name whose region's releases count more is dead
    dead : e < m.editions r → Dead g s r e
    dead l = go (m.books r) refl (callable r) refl
      where
        go : (b : Book) → m.books r ≡ b → (c : Bool) → callable r ≡ c → Dead g s r e
        go absent h c d = record { number = 8; which = inl refl; hidden = A.gone r h e }
        go (holding x xs) h true d = record { number = 18; which = inr refl; hidden = A.stale r x xs d h e (λ z. omega (arith, A.current r x xs h)) }
        go (holding x xs) h false d = record { number = 8; which = inl refl; hidden = A.kept_back r d e }

    not_given : Spent m r e → (outcome g «open» s).answer ≢ opening r e
    not_given (inl l) z = let a = A.opens r e z in omega (arith, a.3)
    not_given (inr h) z = never e h.0 (sym h.1 ∙ (A.opens r e z).2)

    -- what an accepted release counts
    counts : (outcome g (release r e) s).answer ≡ Done 0 → e < (noted g (release r e) (outcome g (release r e) s).answer m).editions r
    unfolding noted
    counts z =
        let a = release_accepted g s.image s.index r e (not_refused g (release r e) s (outcome g (release r e) s) refl z) in
        let n = S.counts r (open_below g (front g s.image) r (usable_facts g (front g s.image) r a.1.usable).2) in
        rw (z, eq-eqb r r refl, three) (omega (arith, n, a.1.edition))

  -- ---- any calls
  record Kept (m : Moment) : Type 0 where
    sound : Sound g bytes m.state m.model
    three : m.model.version ≡ version3

  kept_next : (m : Moment) → Kept m → (c : Call) → Kept (next g c m)
  kept_next m K c = record {
    sound = sound_next g bytes m.state m.model K.sound c;
    three = (rises m.state m.model K.sound K.three c (outcome g c m.state).answer refl).0;
  }

  kept_after : (cs : List Call) (m : Moment) → Kept m → Kept (after g cs m)
  unfolding after
  kept_after [] m K = K
  kept_after (c ∷ cs) m K = kept_after cs (next g c m) (kept_next m K c)

  spent_after : (cs : List Call) (m : Moment) → Kept m → Spent m.model r e → Spent (after g cs m).model r e
  unfolding after
  spent_after [] m K p = p
  spent_after (c ∷ cs) m K p = spent_after cs (next g c m) (kept_next m K c) (spent_next m.state m.model K.sound K.three p c)

  rises_after : (cs : List Call) (m : Moment) → Kept m → e < m.model.editions r → e < (after g cs m).model.editions r
  unfolding after
  rises_after [] m K l = l
  rises_after (c ∷ cs) m K l =
      let n = rises m.state m.model K.sound K.three c (outcome g c m.state).answer refl in
      rises_after cs (next g c m) (kept_next m K c) (omega (arith, n.1))

module _ (g : Geometry) where
  -- a history starts in order
  start_kept : (m : Moment) → Start g m → m.model.version ≡ version3 → (bytes : ℕ) × ((r e : ℕ) → Kept g bytes r e m)
  start_kept m (inl p) three =
      let v = p.0 in
      let s = p.1 in
      (length s.image, λ r e. record { sound = rw p.3 (sound_laid g v s (not_refused g (lay v) s (outcome g (lay v) s) refl p.2)); three = three })
  start_kept m (inr p) three =
      let s = p.0 in
      (length s.image, λ r e. record { sound = rw p.2 (sound_recovered g s (not_refused g recover s (outcome g recover s) refl p.1)); three = three })

  pub stale_for_ever : StaleForEver g
  unfolding StaleForEver
  stale_for_ever m st three before later r e z =
      let B = start_kept m st three in
      let bytes = B.0 in
      let n = after g before m in
      let K = kept_after g bytes r e before m (B.1 r e) in
      let k = next g (release r e) n in
      let L = kept_next g bytes r e n K (release r e) in
      let F = kept_after g bytes r e later k L in
      dead g bytes r e (after g later k).state (after g later k).model F.sound F.three
      (rises_after g bytes r e later k L (counts g bytes r e n.state n.model K.sound K.three z))

  given : (n : Moment) (r e : ℕ) → (outcome g «open» n.state).answer ≡ opening r e → (next g «open» n).model.books r ≡ holding e []
  unfolding noted
  given n r e z = rw z (having_here r (holding e []) n.model.books)

  pub given_once : GivenOnce g
  unfolding GivenOnce
  given_once m st three before later r e z =
      let B = start_kept m st three in
      let bytes = B.0 in
      let n = after g before m in
      let K = kept_after g bytes r e before m (B.1 r e) in
      let k = next g «open» n in
      let L = kept_next g bytes r e n K «open» in
      let F = kept_after g bytes r e later k L in
      not_given g bytes r e (after g later k).state (after g later k).model F.sound F.three
      (spent_after g bytes r e later k L (inr ([], given n r e z)))
