-- A history may start at a moved image: region 0 is the old memory, and every other book is as laid.
use Prim.Native.Nat.{ℕ, ◌*◌, ◌<◌}
use mathlib.Core.Path.{◌≡◌, sym, ◌∙◌, ap, ap₂}
use mathlib.Core.List.{List}
use native.Mathlib.Omega.{arith}
use native.Mathlib.Decide.{ℕ_discrete, dec_lt}
use borrow.Author.Tests.{ne_eqb, le-leb, lt-leb}
use lib.ListN.{take, length}
use Rattle.paper.specs.declared.Geometry.{Geometry}
use Rattle.paper.specs.Answers.{Done}
use Rattle.paper.specs.declared.Version.TheVariants.{Two}
use Rattle.paper.specs.Geometry.{fixed_regions, anonymous, reclaimed, Allowed}
use Rattle.paper.specs.Image.{front}
use Rattle.paper.specs.Calls.{book_in}
use Rattle.paper.specs.Move.{moved_front, moved_image, move_refusal, move_outcome}
use Rattle.paper.specs.Outcomes.{number_of, State, Outcome}
use Rattle.rules.specs.Facts.{Movable}
use Rattle.rules.proofs.Laid.{laid_fixed, laid_open, laid_not_open}
use Rattle.rules.proofs.Moved.{moved_version, moved_edition, moved_sizes, moved_opens}
use Rattle.rules.proofs.Lines.{move_accepted, move_done, move_number}
use Rattle.keeping.proofs.Books.{book_empty}
use Rattle.keeping.proofs.Moved.{moved_front_lem, moved_length, moved_blank, moved_ordered, moved_book}
use Rattle.history.specs.History.{holding, Moment, fresh_books, after, found, moved_model, FromMoved, MovedFound}
use Rattle.history.proofs.Sound.{Sound, having_here, having_else, found_open}
use Rattle.history.proofs.Seen.{sound_agrees}
use Rattle.history.proofs.Demand3.{sound_after}

module _ (g : Geometry) (n : ℕ) (image index : List ℕ) (M : Movable g n image index) where
  A : Allowed g
  A = M.readable.allowed

  abbrev u : List ℕ
  u = moved_front g Two n

  abbrev x : List ℕ
  x = moved_image g n image

  fr : front g x ≡ u
  fr = moved_front_lem g n image index M

  found_moved : (r : ℕ) → (moved_model g n image).books r ≡ found g (moved_image g n image) r
  found_moved r = go (ℕ_discrete r anonymous) (ℕ_discrete r reclaimed) (dec_lt r fixed_regions)
    where
      go : Dec (r ≡ anonymous) → Dec (r ≡ reclaimed) → Dec (r < fixed_regions) → (moved_model g n image).books r ≡ found g x r
      go (yes d) _ _ =
          rw d (having_here anonymous (holding 0 (take (n * g.page) image)) (fresh_books g)
          ∙ sym (found_open g x anonymous (omega arith) (rw fr (moved_opens g A Two n M.most anonymous ∙ laid_open g A Two anonymous (omega arith)))
          ∙ ap₂ holding (rw fr (moved_edition g A Two n M.most anonymous (omega (arith, A.entries_least)))) (ap (λ w. book_in g w x anonymous) fr ∙ moved_book g n image index M)))
      go (no d) (yes c) _ = having_else anonymous (holding 0 (take (n * g.page) image)) (fresh_books g) r d ∙ rw c
      go (no d) (no c) (yes l) =
          having_else anonymous (holding 0 (take (n * g.page) image)) (fresh_books g) r d
          ∙ rw (
            ne_eqb r reclaimed c,
            lt-leb fixed_regions r l,
            fr,
            moved_opens g A Two n M.most r,
            laid_open g A Two r l,
            moved_edition g A Two n M.most r (omega (arith, A.entries_least)),
          )
          (ap (holding 0) (sym (book_empty g u x r (moved_sizes g A Two n M.most r d (omega (arith, A.entries_least)) ∙ laid_fixed g A Two r l))))
      go (no d) (no c) (no l) =
          having_else anonymous (holding 0 (take (n * g.page) image)) (fresh_books g) r d
          ∙ rw (ne_eqb r reclaimed c, le-leb fixed_regions r (omega arith), fr, moved_opens g A Two n M.most r, laid_not_open g A Two r (omega arith))

module _ (g : Geometry) where
  accepted : (n : ℕ) (s : State) (o : Outcome) → o ≡ move_outcome g n s → o.answer ≡ Done 0 → move_refusal g n s.image s.index ≡ 0
  accepted n s o e d = sym (move_number g n s) ∙ ap (λ o. number_of o.answer) (sym e) ∙ ap number_of d

  movable : (n : ℕ) (s : State) (o : Outcome) → o ≡ move_outcome g n s → o.answer ≡ Done 0 → Movable g n s.image s.index
  movable n s o e d = move_accepted g s.image s.index n (accepted n s o e d)

  pub moved_found : MovedFound g
  unfolding MovedFound
  moved_found n s o e d r = rw (e, move_done g n s (accepted n s o e d)) (found_moved g n s.image s.index (movable n s o e d) r)

  pub from_moved : FromMoved g
  unfolding FromMoved
  from_moved n s o e d cs =
      let M = movable n s o e d in
      let m : Moment = record { state = o.state; model = moved_model g n s.image } in
      let S : Sound g (length s.image) o.state (moved_model g n s.image) =
      rw (e, move_done g n s (accepted n s o e d)) (record {
        ordered = moved_ordered g n s.image s.index M;
        as_long = moved_length g n s.image s.index M;
        blank = moved_blank g n s.image s.index M;
        version = rw (moved_front_lem g n s.image s.index M) (sym (moved_version g M.readable.allowed Two n M.most));
        counts = λ q h. rw (moved_front_lem g n s.image s.index M) (sym (moved_edition g M.readable.allowed Two n M.most q h));
        agree = found_moved g n s.image s.index M;
      }) in
      sound_agrees g (length s.image) (after g cs m).state (after g cs m).model (sound_after g (length s.image) cs m S)
