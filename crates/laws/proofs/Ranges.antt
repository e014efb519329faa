-- What `all` and `find` give over a range of numbers, as the folds over those numbers. Each takes the call's clause `ran`, that the range is the one
-- from a up to, and without, e, and what a call of the closure at a number in it gives: p of the number, with the closure as it was.
use Prim.Native.Nat.{ℕ, ◌+◌, ◌-◌, ◌≤◌, ◌<◌}
use mathlib.Core.Bool.{Bool, true, false}
use mathlib.Core.Path.{◌≡◌, sym, ◌∙◌, ap, subst}
use mathlib.Core.List.{List, [], ◌∷◌}
use native.Mathlib.Omega.{arith}
use native.Mathlib.Decide.{ℕ_discrete}
use denote.Param.Members.{Mut}
use denote.Ref.{Bor}
use Rattle.std.specs.declared.ops.Range.{Range}
use Rattle.std.specs.declared.option.Option.{Option}
use Rattle.std.specs.declared.option.Option.TheVariants.{None, Some}
use Rattle.std.specs.Fn.{Called, CalledAt}
use Rattle.std.specs.Iterator.{Yields, YieldsThen, ChecksAll, FindsItem}
use Rattle.std.specs.List.{FoldsTo}
use Rattle.std.specs.Option.{MatchOption, unwrap_or}
use Rattle.std.proofs.iter.Yields.{nat_range_steps}
use Rattle.laws.specs.Folds.{all_below, all_from, first_from}
use Rattle.laws.proofs.Folds.{all_ext, from_all, not_all_from, first_is}

-- p gives `on` at each number from a up to, and without, e
abbrev Along : ℕ → ℕ → (ℕ → Bool) → Bool → Type 0
Along a e p on = (k : ℕ) → a ≤ k → k < e → p k ≡ on

-- a pass over the numbers from a on that goes on where p gives `on`: what it has seen where it stops
module _ {F : Type 0} (R : F → ℕ → F → Type 0) (f : F) (a e : ℕ) (p : ℕ → Bool) (on : Bool)
    (tells : (x : ℕ) (q : F) → a ≤ x → x < e → R f x q → (q ≡ f) × (p x ≡ on)) where
  passed : (xs : List ℕ) (s t : Range ℕ) (j : F) → s.end ≡ e → a ≤ s.start → Yields nat_range_steps s xs t → FoldsTo R f xs j
      → (j ≡ f) × (t.end ≡ e) × (s.start ≤ t.start) × Along s.start t.start p on
  passed [] s t j is low y c =
      let at : s.start ≡ t.start = ap (λ (z : Range ℕ). z.start) y in
      (sym c, ap (λ (z : Range ℕ). z.end) (sym y) ∙ is, omega arith, λ k l h. absurd (omega arith))
  passed (x ∷ xs) s t j is low y c =
      let told = tells x c.0 (omega (arith, y.1.1.1)) (omega (arith, y.1.1.0, y.1.1.1)) c.1 in
      let rest = passed xs y.0 t j (y.1.0 ∙ is) (omega (arith, y.1.1.2)) y.2 (subst (λ k. FoldsTo R k xs j) told.0 c.2) in
      (rest.0, rest.1, omega (arith, y.1.1.2, rest.2), λ k l h. seen k l h (subst (λ z. p z ≡ on) y.1.1.1 told.1) rest.3 y.1.1.2 (ℕ_discrete s.start k))
    where
      seen : (k : ℕ) → s.start ≤ k → k < t.start → p s.start ≡ on → Along y.0.start t.start p on → y.0.start ≡ s.start + 1 → Dec (s.start ≡ k) → p k ≡ on
      seen k l h first later next (yes d) = subst (λ z. p z ≡ on) d first
      seen k l h first later next (no d) = later k (omega arith) h

  -- at the end, or at x
  stopped : {s : Range ℕ} (u : Range ℕ) (xs : List ℕ) (o : Option ℕ) (j : F)
      → s ≡ record { start = a; end = e } → YieldsThen nat_range_steps s xs o u → FoldsTo R f xs j
      → (j ≡ f) × MatchOption o (Along a e p on) (λ x. (a ≤ x) × (x < e) × Along a x p on)
  stopped {s} u xs o j is y c = (saw.0, at o y.2)
    where
      first : s.start ≡ a
      first = ap (λ (z : Range ℕ). z.start) is

      saw : (j ≡ f) × (y.0.end ≡ e) × (s.start ≤ y.0.start) × Along s.start y.0.start p on
      saw = passed xs s y.0 j (ap (λ (z : Range ℕ). z.end) is) (omega (arith, first)) y.1 c

      at : (o : Option ℕ) → nat_range_steps y.0 o u → MatchOption o (Along a e p on) (λ x. (a ≤ x) × (x < e) × Along a x p on)
      at None z = λ k l h. saw.3 k (omega (arith, first)) (omega (arith, saw.1, z.1.0))
      at (Some x) z = (omega (arith, first, saw.2, z.1.1), omega (arith, saw.1, z.1.0, z.1.1), λ k l h. saw.3 k (omega (arith, first)) (omega (arith, z.1.1)))

from_zero : (e : ℕ) (p : ℕ → Bool) → all_from 0 e p ≡ all_below e p
from_zero e p =
    let w : e - 0 ≡ e = omega arith in
    rw w (all_ext e (λ k. p (0 + k)) p (λ i h. ap p {x = 0 + i} {y = i} (omega arith)))

module _ {F : Type 0} {g : Mut F (ℕ × Unit {0}) Bool} {s u : Range ℕ} {f : F} {r : Bool} where
  pub all_in_range : (a e : ℕ) (p : ℕ → Bool) → ChecksAll nat_range_steps g s f r u → s ≡ record { start = a; end = e }
      → ((x : ℕ) (b : Bool) (q : F) → a ≤ x → x < e → Called g f (x, tt) b q → (q ≡ f) × (b ≡ p x))
      → r ≡ all_from a e p
  all_in_range a e p ran is tells = ends ran.1 it.1 ran.5
    where
      it : (ran.2 ≡ f) × MatchOption ran.1 (Along a e p true) (λ x. (a ≤ x) × (x < e) × Along a x p true)
      it = stopped (λ q x h. Called g q (x, tt) true h) f a e p true (λ x q l h c. let t = tells x true q l h c in (t.0, sym t.1)) u ran.0 ran.1 ran.2 is ran.3 ran.4

      ends : (o : Option ℕ) → MatchOption o (Along a e p true) (λ x. (a ≤ x) × (x < e) × Along a x p true)
          → MatchOption o (r ≡ true) (λ x. (r ≡ false) × ((h : F) × Called g ran.2 (x, tt) false h)) → r ≡ all_from a e p
      ends None w t = t ∙ sym (from_all a e p w)
      ends (Some x) w t =
          let told = tells x false t.1.0 w.0 w.1 (subst (λ z. Called g z (x, tt) false t.1.0) it.0 t.1.1) in
          t.0 ∙ sym (not_all_from a e p x w.0 w.1 (sym told.1))

  -- the same from 0 on
  pub all_to : (e : ℕ) (p : ℕ → Bool) → ChecksAll nat_range_steps g s f r u → s ≡ record { start = 0; end = e }
      → ((x : ℕ) (b : Bool) (q : F) → x < e → Called g f (x, tt) b q → (q ≡ f) × (b ≡ p x))
      → r ≡ all_below e p
  all_to e p ran is tells = all_in_range 0 e p ran is (λ x b q l h c. tells x b q h c) ∙ from_zero e p

-- the lowest that passes
module _ {F : Type 0} {g : Mut F (Bor ℕ × Unit {0}) Bool} {s : Range ℕ} {f : F} (u : Range ℕ) (r : Option ℕ) where
  pub hit_in_range : (a e : ℕ) (p : ℕ → Bool) → FindsItem nat_range_steps g s f r u → s ≡ record { start = a; end = e }
      → ((x : ℕ) (b : Bool) (q : F) → a ≤ x → x < e → CalledAt g f x b q → (q ≡ f) × (b ≡ p x))
      → MatchOption r ((k : ℕ) → a ≤ k → k < e → p k ≡ false) (λ i. (a ≤ i) × (i < e) × (p i ≡ true) × ((k : ℕ) → a ≤ k → k < i → p k ≡ false))
  hit_in_range a e p ran is tells = ends r it.1 ran.4
    where
      it : (ran.1 ≡ f) × MatchOption r (Along a e p false) (λ x. (a ≤ x) × (x < e) × Along a x p false)
      it = stopped (λ q x h. CalledAt g q x false h) f a e p false (λ x q l h c. let t = tells x false q l h c in (t.0, sym t.1)) u ran.0 r ran.1 is ran.2 ran.3

      ends : (o : Option ℕ) → MatchOption o (Along a e p false) (λ x. (a ≤ x) × (x < e) × Along a x p false)
          → MatchOption o (Unit {0}) (λ x. (h : F) × CalledAt g ran.1 x true h)
          → MatchOption o (Along a e p false) (λ i. (a ≤ i) × (i < e) × (p i ≡ true) × Along a i p false)
      ends None w t = w
      ends (Some x) w t = (w.0, w.1, sym (tells x true t.0 w.0 w.1 (subst (λ z. CalledAt g z x true t.0) it.0 t.1)).1, w.2)

  -- the same, as the search that it is
  pub found_in_range : (a e : ℕ) (p : ℕ → Bool) → FindsItem nat_range_steps g s f r u → s ≡ record { start = a; end = e } → a ≤ e
      → ((x : ℕ) (b : Bool) (q : F) → a ≤ x → x < e → CalledAt g f x b q → (q ≡ f) × (b ≡ p x))
      → MatchOption r (first_from a (e - a) p ≡ e) (λ i. (i ≡ first_from a (e - a) p) × (a ≤ i) × (i < e) × (p i ≡ true))
  found_in_range a e p ran is l tells = ends r (hit_in_range a e p ran is tells)
    where
      ends : (o : Option ℕ) → MatchOption o (Along a e p false) (λ i. (a ≤ i) × (i < e) × (p i ≡ true) × Along a i p false)
          → MatchOption o (first_from a (e - a) p ≡ e) (λ i. (i ≡ first_from a (e - a) p) × (a ≤ i) × (i < e) × (p i ≡ true))
      ends None h = first_is (e - a) a p e l (omega arith) h (λ b. absurd (omega arith))
      ends (Some x) h = (sym (first_is (e - a) a p x h.0 (omega (arith, h.1)) h.3 (λ _. h.2)), h.0, h.1, h.2)

  -- and with e for none
  pub first_in_range : (a e : ℕ) (p : ℕ → Bool) → FindsItem nat_range_steps g s f r u → s ≡ record { start = a; end = e } → a ≤ e
      → ((x : ℕ) (b : Bool) (q : F) → a ≤ x → x < e → CalledAt g f x b q → (q ≡ f) × (b ≡ p x))
      → unwrap_or r e ≡ first_from a (e - a) p
  first_in_range a e p ran is l tells = ends r (found_in_range a e p ran is l tells)
    where
      ends : (o : Option ℕ) → MatchOption o (first_from a (e - a) p ≡ e) (λ i. (i ≡ first_from a (e - a) p) × (a ≤ i) × (i < e) × (p i ≡ true))
          → unwrap_or o e ≡ first_from a (e - a) p
      ends None h = sym h
      ends (Some x) h = h.0
