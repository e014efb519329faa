-- Demand 3, proved: after an accepted lay or recover and any calls, a caller sees the books that the calls and their answers tell.
use Prim.Native.Nat.{ℕ, ◌<◌, ◌≤◌}
use mathlib.Core.Path.{◌≡◌, refl, sym, ◌∙◌, ap, ap₂}
use mathlib.Core.List.{List, [], ◌∷◌, ◌++◌}
use native.Mathlib.Omega.{arith}
use native.Mathlib.Decide.{ℕ_discrete, dec_lt}
use borrow.Author.Tests.{ne_eqb, le-leb, lt-leb}
use lib.ListN.{length}
use Rattle.paper.specs.declared.Geometry.{Geometry}
use Rattle.paper.specs.Answers.{Done}
use Rattle.paper.specs.declared.Version.{Version}
use Rattle.paper.specs.Geometry.{fixed_regions, reclaimed, Allowed, block_bytes, capacity}
use Rattle.paper.specs.Image.{front, rest, blanked}
use Rattle.paper.specs.Calls.{Call, lay, recover, laid}
use Rattle.paper.specs.Refusals.{refusal}
use Rattle.paper.specs.Outcomes.{number_of, State, Outcome, outcome}
use Rattle.rules.proofs.Laid.{laid_formed, laid_index, laid_fixed, laid_open, laid_not_open, laid_version, laid_edition, laid_front, laid-length, laid_blank}
use Rattle.rules.proofs.Outcomes.{outcome_number, outcome_paper}
use Rattle.keeping.proofs.Books.{book_empty}
use Rattle.history.specs.History.{Model, Exchange, Moment, fresh_books, fresh, noted, after, Demand3, Run, told, Demand3Seen, found, found_model, FromRecovered}
use Rattle.history.proofs.Sound.{Sound, sound_next}
use Rattle.history.proofs.Seen.{sound_agrees}
use Rattle.rules.proofs.Lines.{entered_formed, lay_accepted, recover_accepted, lay_done, recover_done}

module _ (g : Geometry) where
  -- what is done was not refused
  pub not_refused : (c : Call) (s : State) (o : Outcome) → o ≡ outcome g c s → o.answer ≡ Done 0 → refusal g s.image s.index c ≡ 0
  not_refused c s o e d = sym (outcome_number g c s) ∙ (outcome_paper g c s).number ∙ ap (λ o. number_of o.answer) (sym e) ∙ ap number_of d

  -- ---- the first moment, after laying
  pub sound_laid : (v : Version) (s : State) → refusal g s.image s.index (lay v) ≡ 0
      → Sound g (length s.image) (outcome g (lay v) s).state (fresh g v)
  sound_laid v s e = rw (lay_done g s v e) (record {
    ordered = record {
      geometry = A;
      long = omega (arith, len, long);
      formed = rw (fr, len) (laid_formed g A v (capacity g (length s.image)));
      recovered = rw fr (sym (laid_index g A v));
    };
    as_long = len;
    blank = laid_blank g A v s.image long;
    version = rw fr (sym (laid_version g A v));
    counts = λ q h. rw fr (sym (laid_edition g A v q h));
    agree = λ q. agree q (ℕ_discrete q reclaimed) (dec_lt q fixed_regions);
  })
    where
      A : Allowed g
      A = (lay_accepted g s.image s.index v e).0

      long : block_bytes g ≤ length s.image
      long = (lay_accepted g s.image s.index v e).2

      x : List ℕ
      x = laid g v ++ rest g (blanked g s.image)

      fr : front g (laid g v ++ rest g (blanked g s.image)) ≡ laid g v
      fr = laid_front g A v s.image long

      len : length (laid g v ++ rest g (blanked g s.image)) ≡ length s.image
      len = laid-length g A v s.image long

      agree : (q : ℕ) → Dec (q ≡ reclaimed) → Dec (q < fixed_regions) → fresh_books g q ≡ found g (laid g v ++ rest g (blanked g s.image)) q
      agree q (yes d) _ = rw d
      agree q (no d) (yes l) =
          rw (
            ne_eqb q reclaimed d,
            lt-leb fixed_regions q l,
            fr,
            laid_open g A v q l,
            laid_edition g A v q (omega (arith, A.entries_least)),
            book_empty g (laid g v) x q (laid_fixed g A v q l),
          )
      agree q (no d) (no l) =
          rw (ne_eqb q reclaimed d, le-leb fixed_regions q (omega arith), fr, laid_not_open g A v q (omega arith))

  -- or after recovery
  pub sound_recovered : (s : State) → refusal g s.image s.index recover ≡ 0 → Sound g (length s.image) (outcome g recover s).state (found_model g s.image)
  sound_recovered s e =
      let a = recover_accepted g s.image s.index e in
      rw (recover_done g s e) (record {
        ordered = record {
          geometry = a.0.geometry;
          long = a.0.long;
          formed = entered_formed g s.image s.index a.0 a.1;
          recovered = refl;
        };
        as_long = refl;
        blank = a.2;
        version = refl;
        counts = λ q h. refl;
        agree = λ q. refl;
      })

  -- ---- any calls
  pub sound_after : (bytes : ℕ) (cs : List Call) (m : Moment) → Sound g bytes m.state m.model → Sound g bytes (after g cs m).state (after g cs m).model
  unfolding after
  sound_after bytes [] m S = S
  sound_after bytes (c ∷ cs) m S = sound_after bytes cs _ (sound_next g bytes m.state m.model S c)

  pub demand3 : Demand3 g
  unfolding Demand3
  demand3 v s o e d cs =
      let m : Moment = record { state = o.state; model = fresh g v } in
      let S : Sound g (length s.image) o.state (fresh g v) = rw e (sound_laid v s (not_refused (lay v) s o e d)) in
      sound_agrees g (length s.image) (after g cs m).state (after g cs m).model (sound_after (length s.image) cs m S)

  pub from_recovered : FromRecovered g
  unfolding FromRecovered
  from_recovered s o e d cs =
      let m : Moment = record { state = o.state; model = found_model g s.image } in
      let S : Sound g (length s.image) o.state (found_model g s.image) = rw e (sound_recovered s (not_refused recover s o e d)) in
      sound_agrees g (length s.image) (after g cs m).state (after g cs m).model (sound_after (length s.image) cs m S)

  -- ---- a run that someone saw is the history of its calls
  abbrev pub calls_of : List Exchange → List Call
  calls_of [] = []
  calls_of (e ∷ es) = e.call ∷ calls_of es

  pub run_history : (es : List Exchange) (s s' : State) (m : Model) → Run g s es s'
      → after g (calls_of es) (record { state = s; model = m }) ≡ record { state = s'; model = told g es m }
  unfolding Run told after
  run_history [] s s' m r = ap (λ s. record { state = s; model = m }) r
  run_history (e ∷ es) s s' m r =
      ap (λ o. after g (calls_of es) (record { state = o.state; model = noted g e.call o.answer m })) (sym r.0)
      ∙ run_history es e.got.state s' (noted g e.call e.got.answer m) r.1

  -- two runs of the same calls are one
  pub run_only : (es fs : List Exchange) (s s' s'' : State) → calls_of es ≡ calls_of fs → Run g s es s' → Run g s fs s'' → es ≡ fs
  unfolding Run
  run_only [] [] s s' s'' e r q = refl
  run_only [] (f ∷ fs) s s' s'' e r q = let z : ◌≡◌ {A = ℕ} 0 1 = cc in absurd (omega arith)
  run_only (e ∷ es) [] s s' s'' d r q = let z : ◌≡◌ {A = ℕ} 0 1 = cc in absurd (omega arith)
  run_only (e ∷ es) (f ∷ fs) s s' s'' d r q =
      let a : e.call ≡ f.call = cc in
      let b : calls_of es ≡ calls_of fs = cc in
      let c : e.got ≡ f.got = r.0 ∙ rw a (sym q.0) in
      let w : Run g e.got.state fs s'' = rw c q.1 in
      ap₂ (λ x xs. x ∷ xs) (ap₂ (λ x y. record { call = x; got = y }) a c) (run_only es fs e.got.state s' s'' b r.1 w)

  pub demand3_seen : Demand3Seen g
  unfolding Demand3Seen Demand3
  demand3_seen v s s' o e d es r =
      let h = run_history es o.state s' (fresh g v) r in
      rw h at (demand3 v s o e d (calls_of es))
