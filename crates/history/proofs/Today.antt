-- Document 01's demand 3 follows for histories of version 2: there the model's books are the list's, and every edition is 0.
use Prim.Native.Nat.{ℕ, ◌<◌}
use mathlib.Core.Path.{◌≡◌, refl, sym, ◌∙◌, ap}
use mathlib.Core.List.{List, [], ◌∷◌}
use native.Mathlib.Omega.{arith}
use lib.ListN.{length}
use Rattle.paper.specs.declared.Geometry.{Geometry}
use Rattle.paper.specs.Answers.{Answer, Done, Opened, Refused}
use Rattle.paper.specs.declared.Version.TheVariants.{Two}
use Rattle.paper.specs.Geometry.{version2}
use Rattle.paper.specs.Image.{front, edition_of}
use Rattle.paper.specs.Calls.{Call, lay, «open», grow, load, store, look, size, release, recover, book_in}
use Rattle.paper.specs.Refusals.{refusal}
use Rattle.paper.specs.Outcomes.{number_of, State, outcome}
use Rattle.rules.proofs.Cells.{edition_2}
use Rattle.rules.proofs.Lines.{grow_accepted, store_accepted, release_accepted, only_open}
use Rattle.rules.proofs.Outcomes.{outcome_number, outcome_paper}
use Rattle.history.specs.History.{Books, having, Model, fresh_books, fresh, noted, found, found_model, Agrees}
use Rattle.history.specs.Today.{jotted, left, listed, AgreesToday, Demand3Today, TodayRecovered}
use Rattle.history.proofs.Sound.{Sound, struck_out, named, sound_next}
use Rattle.history.proofs.Seen.{sound_agrees}
use Rattle.history.proofs.Demand3.{not_refused, sound_laid, sound_recovered}

module _ (g : Geometry) (bytes : ℕ) where
  -- a moment of version 2 in order, with today's list beside the model
  record AsToday (s : State) (m : Model) (books : Books) : Type 0 where
    sound : Sound g bytes s m
    two : m.version ≡ version2
    same : books ≡ m.books

  module _ (s : State) (m : Model) (books : Books) (T : AsToday s m books) where
    S : Sound g bytes s m
    S = T.sound

    A : Agrees g bytes s m
    A = sound_agrees g bytes s m S

    abbrev t : List ℕ
    t = front g s.image

    -- edition 0 only
    zero_in : (r : ℕ) → edition_of g t r ≡ 0
    zero_in r = edition_2 g t (sym S.version ∙ T.two) r

    zero_of : (r : ℕ) → r < g.entries → m.editions r ≡ 0
    zero_of r h = S.counts r h ∙ zero_in r

    agrees_today : AgreesToday g bytes s books
    agrees_today = rw T.same (record {
      as_long = A.as_long;
      recovers = A.recovers;
      shown = λ r xs c h. A.shown r 0 xs c h;
      gone = λ r h. A.gone r h 0;
      kept_back = λ r c. A.kept_back r c 0;
      opens = λ v e z. let a = A.opens v e z in (a.0, a.1, a.2, a.3 ∙ zero_of v (omega (arith, a.1)));
      opens_not = λ all. A.opens_not (λ r lo hi h. absurd (all r lo hi h));
      opens_some = λ r lo hi h.
          let a = A.opens_some r lo hi h (omega (arith, zero_of r (omega arith))) in
          let o = A.opens a.0 a.1 a.2 in
          let e : a.1 ≡ 0 = o.3 ∙ zero_of a.0 (omega (arith, o.1)) in
          (a.0, rw e at a.2);
      lays_not = A.lays_not Two;
    })

    -- ---- one call more
    done_0 : (c : Call) (v : ℕ) → (outcome g c s).answer ≡ Done v → refusal g s.image s.index c ≡ 0
    done_0 c v z = sym (outcome_number g c s) ∙ (outcome_paper g c s).number ∙ ap number_of z

    tells : (c : Call) (a : Answer) → (outcome g c s).answer ≡ a → jotted g c a m.books ≡ (noted g c a m).books
    unfolding jotted noted
    tells c (Refused k) z = refl
    tells c (Opened r e) z =
        let a = A.opens r.0 e.0 (rw (only_open g c s r.0 e.0 z) at z) in
        let d : e.0 ≡ 0 = a.3 ∙ zero_of r.0 (omega (arith, a.1)) in
        rw d
    tells (lay v) (Done n) z = refl
    tells «open» (Done n) z = refl
    tells (grow r e n) (Done v) z =
        let b = (grow_accepted g s.image s.index r e n (done_0 (grow r e n) v z)).1 in
        let d : e ≡ 0 = sym b.edition ∙ zero_in r in
        rw d
    tells (load r e o b) (Done v) z = refl
    tells (store r e o b) (Done v) z =
        let f = store_accepted g s.image s.index r e o b (done_0 (store r e o b) v z) in
        let d : e ≡ 0 = sym f.1 ∙ zero_in r in
        rw d
    tells (look r e o) (Done v) z = refl
    tells (size r e) (Done v) z = refl
    tells (release r e) (Done v) z =
        let b = (release_accepted g s.image s.index r e (done_0 (release r e) v z)).1 in
        let h = (named g bytes s m S r e b).1 in
        ap (λ book. having r book m.books) (sym (struck_out e (m.books r) (edition_of g t r) (book_in g t s.image r) h b.edition))
    tells recover (Done v) z = refl

    -- the version stays
    still_two : (c : Call) (a : Answer) → (outcome g c s).answer ≡ a → (noted g c a m).version ≡ version2
    unfolding noted
    still_two c (Refused k) z = T.two
    still_two c (Opened r e) z = T.two
    still_two (lay v) (Done n) z = let d : Refused 12 ≡ Done n = sym (A.lays_not v) ∙ z in let w : ◌≡◌ {A = ℕ} 0 1 = cc in absurd (omega arith)
    still_two «open» (Done n) z = T.two
    still_two (grow r e n) (Done v) z = T.two
    still_two (load r e o b) (Done v) z = T.two
    still_two (store r e o b) (Done v) z = T.two
    still_two (look r e o) (Done v) z = T.two
    still_two (size r e) (Done v) z = T.two
    still_two (release r e) (Done v) z = T.two
    still_two recover (Done v) z = T.two

    today_next : (c : Call) → AsToday (outcome g c s).state (noted g c (outcome g c s).answer m) (jotted g c (outcome g c s).answer books)
    today_next c = record {
      sound = sound_next g bytes s m S c;
      two = still_two c (outcome g c s).answer refl;
      same = ap (jotted g c (outcome g c s).answer) T.same ∙ tells c (outcome g c s).answer refl;
    }

  -- ---- any calls
  today : (cs : List Call) (s : State) (m : Model) (books : Books) → AsToday s m books → AgreesToday g bytes (left g cs s) (listed g cs s books)
  unfolding left listed
  today [] s m books T = agrees_today s m books T
  today (c ∷ cs) s m books T =
      today cs (outcome g c s).state (noted g c (outcome g c s).answer m) (jotted g c (outcome g c s).answer books) (today_next s m books T c)

module _ (g : Geometry) where
  pub demand3_today : Demand3Today g
  unfolding Demand3Today
  demand3_today s o e d cs =
      today g (length s.image) cs o.state (fresh g Two) (fresh_books g)
      (record { sound = rw e (sound_laid g Two s (not_refused g (lay Two) s o e d)); two = refl; same = refl })

  pub today_recovered : TodayRecovered g
  unfolding TodayRecovered
  today_recovered s o e d v cs =
      today g (length s.image) cs o.state (found_model g s.image) (found g s.image)
      (record { sound = rw e (sound_recovered g s (not_refused g recover s o e d)); two = v; same = refl })
