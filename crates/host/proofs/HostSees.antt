-- What a host sees of a call, from the call's own promise.
use Prim.Native.Nat.{ℕ, ◌+◌, ◌*◌, ◌/◌, ◌%◌, ◌≤◌, ◌<◌}
use mathlib.Core.Logic.{◌≢◌}
use mathlib.Core.Path.{◌≡◌, refl, sym, ◌∙◌, ap, ap₂}
use borrow.Author.Tests.{ne_eqb}
use mathlib.Core.List.{List}
use mathlib.Core.List.{List}
use native.Mathlib.Omega.{arith}
use native.Mathlib.Decide.{ℕ_discrete}
use lib.Arith.{digits_div, digits_mod}
use lib.IntN.{pos}
use lib.ListN.{length}
use Rattle.paper.specs.declared.Geometry.{Geometry}
use Rattle.paper.specs.Answers.{Answer}
use Rattle.paper.specs.Geometry.{last_edition, block_bytes, allowed, Allowed, capacity, most_book_pages}
use Rattle.paper.specs.Image.{front, pages_of, edition_of}
use Rattle.paper.specs.Calls.{Call, lay, «open», grow, load, store, look, size, release, recover, next_region}
use Rattle.paper.specs.Refusals.{refusal}
use Rattle.paper.specs.Move.{move_refusal, move_outcome}
use Rattle.paper.specs.Outcomes.{value_of, edition_in, State, gives, outcome}
use Rattle.paper.proofs.Arithmetic.{book_pages_bound}
use Rattle.rules.proofs.Outcomes.{outcome_number, outcome_paper}
use Rattle.host.specs.Host.{no_geometry, geometry_of, value_end, region_end, host_value, packed, HostSees, sees, host_sees}
use Rattle.rules.proofs.Lines.{open_accepted, grow_accepted, size_accepted, refused_1, refused, move_done, move_refused, lay_done, open_done, grow_done, release_done, load_done, store_done, look_done, size_done, recover_done}
use Rattle.rules.proofs.Usable.{usable_facts}
use Rattle.keeping.proofs.Open.{open_next}

-- the number is the answer's, the geometry is the one named, and the call kept its promise
pub host_sees_lem : {n : ℕ} {a : Answer} {bytes : List ℕ} {s : State} {g h : Geometry} (c : Call) (t : State)
    → n ≡ packed a → g ≡ h → gives a bytes s ≡ outcome g c t → sees n bytes s ≡ host_sees (outcome h c t)
host_sees_lem {n} {a} {bytes} {s} {g} {h} c t e d f = ap (λ k. sees k bytes s) e ∙ ap host_sees (f ∙ ap (λ g. outcome g c t) d)

-- so did the move
pub host_sees_move : {n : ℕ} {a : Answer} {bytes : List ℕ} {s : State} {g h : Geometry} (m : ℕ) (t : State)
    → n ≡ packed a → g ≡ h → gives a bytes s ≡ move_outcome g m t → sees n bytes s ≡ host_sees (move_outcome h m t)
host_sees_move {n} {a} {bytes} {s} {g} {h} m t e d f = ap (λ k. sees k bytes s) e ∙ ap host_sees (f ∙ ap (λ g. move_outcome g m t) d)

-- its value is 0, and two outcomes that its promise allows are equal
pub move_value : (g : Geometry) (n : ℕ) (s : State) → (move_outcome g n s).value ≡ pos 0
move_value g n s = go (ℕ_discrete (move_refusal g n s.image s.index) 0)
  where
    go : Dec (move_refusal g n s.image s.index ≡ 0) → (move_outcome g n s).value ≡ pos 0
    go (yes e) = rw (move_done g n s e)
    go (no ne) = rw (move_refused g n s (move_refusal g n s.image s.index) refl ne)

pub one_moved : (g : Geometry) (n : ℕ) (s : State) (x y : HostSees) → x ≡ host_sees (move_outcome g n s) → y ≡ host_sees (move_outcome g n s) → x ≡ y
one_moved g n s x y p q = p ∙ sym q

-- two outcomes that one promise allows are equal
pub one_seen : (g : Geometry) (c : Call) (s : State) (x y : HostSees) → x ≡ host_sees (outcome g c s) → y ≡ host_sees (outcome g c s) → x ≡ y
one_seen g c s x y p q = p ∙ sym q

-- ---- a value lies below 2^56, so that the one number tells refusal and value apart
module _ (g : Geometry) (s : State) where
  abbrev t : List ℕ
  t = front g s.image

  abbrev seen_value : Call → ℕ
  seen_value c = host_value (outcome g c s).value (outcome g c s).edition

  pages_below : (r : ℕ) → Allowed g → pages_of g t r ≤ most_book_pages g → pages_of g t r < value_end
  pages_below r a h = omega (arith, book_pages_bound g a)

  -- what open gives: a region of two bytes, and an edition of four
  opened_below : refusal g s.image s.index «open» ≡ 0 → let r = next_region g (front g s.image) in (r < region_end) × (edition_of g (front g s.image) r < last_edition)
  opened_below e =
      let f = open_accepted g s.image s.index e in
      let O = f.0 in (
        omega (arith, f.1, O.geometry.entries_most),
        (open_next g O.geometry (capacity g (length s.image)) t O.formed f.1).current,
      )

  done_below : (c : Call) → refusal g s.image s.index c ≡ 0 → seen_value c < value_end
  done_below (lay v) e = rw (lay_done g s v e) (omega arith)
  done_below «open» e = let f = opened_below e in rw (open_done g s e) (omega (arith, f.0, f.1))
  done_below (grow r d n) e =
      let f = grow_accepted g s.image s.index r d n e in
      let h = pages_below r f.0.geometry (f.0.formed.rules.fits r (usable_facts g t r f.1.usable).2) in
      rw (grow_done g s r d n e) (omega (arith, h))
  done_below (load r d o b) e = rw (load_done g s r d o b e) (omega arith)
  done_below (store r d o b) e = rw (store_done g s r d o b e) (omega arith)
  done_below (look r d o) e = rw (look_done g s r d o e) (omega arith)
  done_below (size r d) e =
      let f = size_accepted g s.image s.index r d e in
      let h = pages_below r f.0.headed.readable.allowed f.2 in
      rw (size_done g s r d e) (omega (arith, h))
  done_below (release r d) e = rw (release_done g s r d e) (omega arith)
  done_below recover e = rw (recover_done g s e) (omega arith)

  pub value_below : (c : Call) → host_value (outcome g c s).value (outcome g c s).edition < value_end
  value_below c = go (ℕ_discrete (refusal g s.image s.index c) 0)
    where
      go : Dec (refusal g s.image s.index c ≡ 0) → host_value (outcome g c s).value (outcome g c s).edition < value_end
      go (yes e) = done_below c e
      go (no ne) = rw (refused g c s (refusal g s.image s.index c) refl ne) (omega arith)

  -- as a host takes the number apart
  pub number_apart : (c : Call) → let o = outcome g c s in
      (packed o.answer / value_end ≡ o.number) × (packed o.answer % value_end ≡ host_value o.value o.edition)
  number_apart c =
      let o = outcome g c s in
      let p = outcome_paper g c s in
      let same : host_value o.value o.edition ≡ host_value (value_of o.answer) (edition_in o.answer) = ap₂ host_value p.value p.edition in
      let l : host_value (value_of o.answer) (edition_in o.answer) < value_end = rw same at (value_below c) in
      (digits_div _ l ∙ sym p.number, digits_mod _ l ∙ sym same)

  -- and open's value: region and edition
  pub opened_apart : refusal g s.image s.index «open» ≡ 0 → let o = outcome g «open» s in
      (pos (host_value o.value o.edition % region_end) ≡ o.value) × (host_value o.value o.edition / region_end ≡ o.edition)
  opened_apart e =
      let f = opened_below e in
      let r = next_region g t in
      let d = edition_of g t r in
      let swap : r + d * region_end ≡ d * region_end + r = omega arith in
      rw (open_done g s e, swap) (ap pos (digits_mod d f.0), digits_div d f.0)

-- ---- a number that names no geometry is refused with 1, whatever the call
pub other_number : (n : ℕ) → n ≢ 0 → n ≢ 1 → (c : Call) (s : State) → (outcome (geometry_of n) c s).number ≡ 1
unfolding geometry_of allowed block_bytes
other_number n a b c s =
    outcome_number (geometry_of n) c s ∙ rw (ne_eqb n 0 a, ne_eqb n 1 b) (refused_1 no_geometry s.image s.index refl c)
