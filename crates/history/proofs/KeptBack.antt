-- The books kept back stay as they were found, and growth counts their blocks.
use Prim.Native.Nat.{ℕ, ◌+◌}
use mathlib.Core.Bool.{Bool, true, false, cond}
use mathlib.Core.Logic.{◌≢◌}
use mathlib.Core.Path.{◌≡◌, refl, sym, ◌∙◌}
use mathlib.Core.List.{List, [], ◌∷◌}
use native.Mathlib.Omega.{arith}
use native.Mathlib.Decide.{ℕ_discrete}
use borrow.Author.Tests.{ne_eqb, le-leb}
use lib.ListN.{length}
use Rattle.laws.specs.Folds.{sum_below}
use Rattle.laws.proofs.Tests.{clash}
use Rattle.laws.proofs.Folds.{sum_ext, sum_add}
use Rattle.paper.specs.declared.Geometry.{Geometry}
use Rattle.paper.specs.Answers.{Done}
use Rattle.paper.specs.Image.{front}
use Rattle.paper.specs.Calls.{Call, lay, «open», grow, load, store, look, size, release, recover, next_region}
use Rattle.paper.specs.Refusals.{callable, blank, refusal}
use Rattle.paper.specs.Outcomes.{State, Outcome, outcome}
use Rattle.rules.proofs.Usable.{usable_facts}
use Rattle.rules.proofs.Lines.{lay_accepted, grow_accepted, store_accepted, release_accepted, refused, open_done, grow_done, release_done, load_done, store_done, look_done, size_done, recover_done}
use Rattle.keeping.proofs.Changed.{open_fresh}
use Rattle.history.specs.History.{Book, Books, Model, Moment, having, longer, noted, after, blocks_for, found, found_model, callers_blocks, kept_blocks, FromRecovered, KeptBackStay, GrowsBesideKept}
use Rattle.history.proofs.Sound.{Sound, having_else, not_blank_lem, sound_next}
use Rattle.history.proofs.Demand3.{not_refused, sound_recovered, from_recovered}

-- a region of the caller's is none of those kept back
apart : (q r : ℕ) → callable q ≡ false → callable r ≡ true → q ≢ r
apart q r k c e = clash (callable q) (rw e c) k

module _ (g : Geometry) (q : ℕ) (k : callable q ≡ false) where
  -- ---- one call
  module _ (bytes : ℕ) (s : State) (m : Model) (S : Sound g bytes s m) where
    abbrev t : List ℕ
    t = front g s.image

    away : (r : ℕ) (book : Book) → callable r ≡ true → having r book m.books q ≡ m.books q
    away r book c = having_else r book m.books q (apart q r k c)

    accepted_away : (c : Call) → refusal g s.image s.index c ≡ 0 → (noted g c (outcome g c s).answer m).books q ≡ m.books q
    unfolding noted
    accepted_away (lay v) e = clash (blank g s.image) (lay_accepted g s.image s.index v e).3 (not_blank_lem g bytes s m S)
    accepted_away «open» e =
        let low = (open_fresh g s e).0 in
        rw (open_done g s e) (away (next_region g t) _ (rw (ne_eqb (next_region g t) 0 (λ z. omega arith)) (le-leb _ _ low)))
    accepted_away (grow r d n) e =
        rw (grow_done g s r d n e) (away r _ (usable_facts g t r (grow_accepted g s.image s.index r d n e).1.usable).0)
    accepted_away (load r d o b) e = rw (load_done g s r d o b e)
    accepted_away (store r d o ys) e =
        rw (store_done g s r d o ys e) (away r _ (usable_facts g t r (store_accepted g s.image s.index r d o ys e).0.usable).0)
    accepted_away (look r d o) e = rw (look_done g s r d o e)
    accepted_away (size r d) e = rw (size_done g s r d e)
    accepted_away (release r d) e =
        rw (release_done g s r d e) (away r _ (usable_facts g t r (release_accepted g s.image s.index r d e).1.usable).0)
    accepted_away recover e = rw (recover_done g s e)

    next_away : (c : Call) → (noted g c (outcome g c s).answer m).books q ≡ m.books q
    unfolding noted
    next_away c = go (ℕ_discrete (refusal g s.image s.index c) 0)
      where
        go : Dec (refusal g s.image s.index c ≡ 0) → (noted g c (outcome g c s).answer m).books q ≡ m.books q
        go (yes e) = accepted_away c e
        go (no ne) = rw (refused g c s (refusal g s.image s.index c) refl ne)

  -- ---- any calls
  after_away : (bytes : ℕ) (cs : List Call) (m : Moment) → Sound g bytes m.state m.model
      → ((after g cs m).model.books q ≡ m.model.books q) × (found g (after g cs m).state.image q ≡ (after g cs m).model.books q)
  unfolding after
  after_away bytes [] m S = (refl, sym (S.agree q))
  after_away bytes (c ∷ cs) m S =
      let later = after_away bytes cs _ (sound_next g bytes m.state m.model S c) in
      (later.0 ∙ next_away bytes m.state m.model S c, later.1)

module _ (g : Geometry) where
  -- ---- from a recovered image
  module _ (s : State) (o : Outcome) (e : o ≡ outcome g recover s) (d : o.answer ≡ Done 0) (cs : List Call) where
    abbrev m : Moment
    m = after g cs (record { state = o.state; model = found_model g s.image })

    started : Sound g (length s.image) o.state (found_model g s.image)
    started = rw e (sound_recovered g s (not_refused g recover s o e d))

    pub kept_books : (q : ℕ) → callable q ≡ false → m.model.books q ≡ found g s.image q
    kept_books q k = (after_away g q k (length s.image) cs (record { state = o.state; model = found_model g s.image }) started).0

    pub kept_found : (q : ℕ) → callable q ≡ false → found g m.state.image q ≡ found g s.image q
    kept_found q k =
        let a = after_away g q k (length s.image) cs (record { state = o.state; model = found_model g s.image }) started in
        a.1 ∙ a.0

  pub kept_back_stay : KeptBackStay g
  unfolding KeptBackStay
  kept_back_stay s o e d cs q k = kept_found s o e d cs q k

  -- ---- all blocks are the callers' and those kept back
  all_parts : (books : Books) → sum_below g.entries (λ r. blocks_for g (books r)) ≡ callers_blocks g books + kept_blocks g books
  all_parts books =
      sum_ext g.entries (λ r. blocks_for g (books r)) (λ r. cond (callable r) (blocks_for g (books r)) 0 + cond (callable r) 0 (blocks_for g (books r)))
      (λ r h. part (callable r) (blocks_for g (books r)))
      ∙ sum_add g.entries (λ r. cond (callable r) (blocks_for g (books r)) 0) (λ r. cond (callable r) 0 (blocks_for g (books r)))
    where
      part : (b : Bool) (n : ℕ) → n ≡ cond b n 0 + cond b 0 n
      part true n = omega arith
      part false n = omega arith

  -- the kept-back books are among the grown ones as they were found
  kept_same : (books grown : Books) → ((q : ℕ) → callable q ≡ false → grown q ≡ books q) → kept_blocks g grown ≡ kept_blocks g books
  kept_same books grown same =
      sum_ext g.entries (λ r. cond (callable r) 0 (blocks_for g (grown r))) (λ r. cond (callable r) 0 (blocks_for g (books r))) (λ r h. go r (callable r) refl)
    where
      go : (r : ℕ) (b : Bool) → callable r ≡ b → cond (callable r) 0 (blocks_for g (grown r)) ≡ cond (callable r) 0 (blocks_for g (books r))
      go r true e = rw e
      go r false e = rw (same r e)

  pub grows_beside_kept : GrowsBesideKept g
  unfolding GrowsBesideKept FromRecovered
  grows_beside_kept s o e d cs r v xs c h n =
      let x = (m s o e d cs).model in
      let grown = having r (longer g v n (x.books r)) x.books in
      let A = from_recovered g s o e d cs in
      let same = kept_same (found g s.image) grown (λ q k. having_else r (longer g v n (x.books r)) x.books q (apart q r k c) ∙ kept_books s o e d cs q k) in
      (A.shown r v xs c h).grows n ∙ rw (all_parts grown, same, A.as_long)
