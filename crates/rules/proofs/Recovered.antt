-- Recovery, as a reader may cite it: which images it accepts, what it leaves, and that what the index held before has no influence.
use Prim.Native.Nat.{ℕ, ◌+◌, ◌≤◌}
use mathlib.Core.Bool.{true}
use mathlib.Core.Logic.{◌↔◌}
use mathlib.Core.Path.{◌≡◌, refl, sym, ◌∙◌}
use mathlib.Core.List.{List, []}
use native.Mathlib.Omega.{arith}
use native.Mathlib.Decide.{ℕ_discrete}
use lib.ListN.{length}
use Rattle.laws.proofs.Folds.{sum_none, sum_more}
use Rattle.paper.specs.declared.Geometry.{Geometry}
use Rattle.paper.specs.Answers.{Done}
use Rattle.paper.specs.Geometry.{Allowed, index_bytes}
use Rattle.paper.specs.Image.{front, blanked, taken, owner, place, need_of}
use Rattle.paper.specs.Index.{index_of}
use Rattle.paper.specs.Calls.{recover}
use Rattle.paper.specs.Refusals.{unused_blank, refusal, well_formed}
use Rattle.paper.specs.Outcomes.{State, lent, gives, outcome}
use Rattle.rules.specs.Facts.{Rules, Entered, Ordered}
use Rattle.rules.proofs.Counting.{block_below, block_owner, block_place, block_at}
use Rattle.rules.proofs.Index.{start_read, block_read, spare_read, stands_once}
use Rattle.rules.proofs.Outcomes.{outcome_number}
use Rattle.rules.proofs.Parts.{front_blanked, unused_blanked, length-blanked, blank_exactly}
use Rattle.rules.proofs.Lines.{recover_accepted, recover_0, recover_formed, recover_same, refused, recover_done}
use Rattle.rules.specs.Recovered.{Recovered}

-- ---- the index of tables that keep the rules
module _ (g : Geometry) (A : Allowed g) (t : List ℕ) (R : Rules g t) (bound : taken g t ≤ g.blocks) where
  pub recovered_index : Recovered g t (index_of g t)
  recovered_index = record {
    start = start_read g A t R bound 0 (omega arith) ∙ sum_none (need_of g t);
    next = λ r h. rw (start_read g A t R bound (r + 1) (omega arith), start_read g A t R bound r (omega arith)) (sum_more r (need_of g t));
    last = start_read g A t R bound g.entries (omega arith) ∙ R.total;
    below = λ r p h. rw (block_read g A t R bound r p h) (block_below g t R r p h);
    owned = λ r p h. rw (block_read g A t R bound r p h) (block_owner g t R r p h);
    placed = λ r p h. rw (block_read g A t R bound r p h) (block_place g t R r p h);
    every = λ b l. block_read g A t R bound (owner g t b) (place g t b) (R.named b l) ∙ block_at g t R b l;
    once = stands_once g A t R bound;
    spare = spare_read g A t R bound;
  }

module _ (g : Geometry) (image index : List ℕ) where
  abbrev s : State
  s = lent image index

  -- the geometry and the index's length once right, recovery is done exactly where the image is well-formed
  module _ (A : Allowed g) (long : length index ≡ index_bytes g) where
    pub done_exactly : ((outcome g recover s).number ≡ 0) ↔ (well_formed g image ≡ true)
    done_exactly =
        let exactly = recover_formed g image index A long in
        (λ e. exactly.0 (sym (outcome_number g recover s) ∙ e), λ e. outcome_number g recover s ∙ exactly.1 e)

  -- the image stays
  pub image_kept : (outcome g recover s).state.image ≡ image
  image_kept = go (ℕ_discrete (refusal g image index recover) 0)
    where
      go : Dec (refusal g image index recover ≡ 0) → (outcome g recover s).state.image ≡ image
      go (yes e) = rw (recover_done g s e)
      go (no ne) = rw (refused g recover s (refusal g image index recover) refl ne)

  -- an accepted recovery leaves the index of the tables
  module _ (done : (outcome g recover s).number ≡ 0) where
    accepted : refusal g image index recover ≡ 0
    accepted = sym (outcome_number g recover s) ∙ done

    pub index_left : (outcome g recover s).state.index ≡ index_of g (front g image)
    index_left = rw (recover_done g s accepted)

    pub recovered : Recovered g (front g image) (outcome g recover s).state.index
    recovered =
        let f = recover_accepted g image index accepted in
        rw index_left (recovered_index g f.0.geometry (front g image) f.1 f.0.header.taken_most)

-- ---- what the index held before has no influence: neither on the answer, nor, once it is done, on what is left
module _ (g : Geometry) (image index other : List ℕ) (same_length : length index ≡ length other) where
  pub same_number : (outcome g recover (lent image index)).number ≡ (outcome g recover (lent image other)).number
  same_number =
      outcome_number g recover (lent image index) ∙ recover_same g image index other same_length ∙ sym (outcome_number g recover (lent image other))

  pub same_outcome : (outcome g recover (lent image index)).number ≡ 0 → outcome g recover (lent image index) ≡ outcome g recover (lent image other)
  same_outcome done =
      let e = sym (outcome_number g recover (lent image index)) ∙ done in
      recover_done g (lent image index) e ∙ sym (recover_done g (lent image other) (sym (recover_same g image index other same_length) ∙ e))

-- ---- "recovery without this check": refusal 7, and the index after an accepted call, mean recovery of the image with the rest of its reserve blank
pub recovers_blanked : (g : Geometry) (image index : List ℕ) → Ordered g image index → (junk : List ℕ) → length junk ≡ index_bytes g
    → outcome g recover (lent (blanked g image) junk) ≡ gives (Done 0) [] (lent (blanked g image) index)
recovers_blanked g image index O junk i =
    recover_done g (lent x junk) (recover_0 g x junk entered blank (rw fr O.formed.rules)) ∙ rw (fr, ← O.recovered)
  where
    x : List ℕ
    x = blanked g image

    fr : front g (blanked g image) ≡ front g image
    fr = front_blanked g O.geometry image O.long

    len : length (blanked g image) ≡ length image
    len = length-blanked g O.geometry image O.long

    blank : unused_blank g (blanked g image) ≡ true
    blank = (blank_exactly g O.geometry x (omega (arith, len, O.long))).1 (unused_blanked g O.geometry image O.long)

    entered : Entered g (blanked g image) junk
    entered = record {
      geometry = O.geometry;
      indexed = i;
      long = omega (arith, len, O.long);
      header = rw fr O.formed.header;
      tail = rw (fr, len) O.formed.tail;
    }
