-- What `all` gives along a walk: the test of every position that the walk touches.
use Prim.Native.Nat.{ℕ}
use mathlib.Core.Bool.{Bool, true, false}
use mathlib.Core.Path.{◌≡◌, sym, ◌∙◌, subst}
use mathlib.Core.List.{List, [], ◌∷◌}
use denote.Param.Members.{Mut}
use Rattle.std.specs.declared.option.Option.{Option}
use Rattle.std.specs.declared.option.Option.TheVariants.{None, Some}
use Rattle.std.specs.Fn.{Called}
use Rattle.std.specs.Iterator.{Yields, ChecksAll}
use Rattle.std.specs.List.{FoldsTo}
use Rattle.std.specs.Option.{MatchOption}
use Rattle.laws.specs.Folds.{all_from}
use Rattle.laws.proofs.Folds.{from_none, from_more, not_all_from}
use Rattle.paper.specs.declared.Geometry.{Geometry}
use Rattle.paper.specs.declared.Spot.{Spot}
use Rattle.paper.specs.Geometry.{Allowed}
use Rattle.rules.specs.Touched.{first_touched, end_touched}
use Rattle.stretches.specs.declared.Walk as walk
use Rattle.stretches.specs.Stretch.{IsStep, Walk}
use Rattle.stretches.proofs.Walks.{walk_end, walk_in, same_step, step_on}

-- what a call of `next` gives
abbrev Steps : walk.Walk → Option (Spot × ℕ) → walk.Walk → Type 0
Steps w r v = MatchOption r (w.left ≡ 0) (λ x. IsStep w.g w.at w.left x.0 x.1 v.at v.left × (v.g ≡ w.g))

-- it stands where the test has passed at each position before it
record Stands (g : Geometry) (o n : ℕ) (p : ℕ → Bool) (w : walk.Walk) : Type 0 where
  geometry : w.g ≡ g
  is : Walk g o n w.at w.left
  seen : all_from (first_touched g o) w.at.position.0 p ≡ true

module _ {g : Geometry} (A : Allowed g) {o n : ℕ} (p : ℕ → Bool) where
  goes : {x : Spot × ℕ} {s t : walk.Walk} → Stands g o n p s → IsStep s.g s.at s.left x.0 x.1 t.at t.left × (t.g ≡ s.g) → p x.0.position.0 ≡ true
      → Stands g o n p t
  goes {x} {s} {t} W y e =
      let S = same_step W.geometry y.0 in
      record {
        geometry = y.1 ∙ W.geometry;
        is = step_on W.is S A;
        seen = rw S.next (from_more (first_touched g o) s.at.position.0 p W.is.low W.seen (rw S.from at e));
      }

  module _ {F : Type 0} (R : F → Spot × ℕ → F → Type 0) (f : F)
      (tells : (x : Spot × ℕ) (q : F) → R f x q → (q ≡ f) × (p x.0.position.0 ≡ true)) where
    passed : (xs : List (Spot × ℕ)) (s t : walk.Walk) (j : F) → Stands g o n p s → Yields Steps s xs t → FoldsTo R f xs j → (j ≡ f) × Stands g o n p t
    passed [] s t j W y c = (sym c, subst (Stands g o n p) y W)
    passed (x ∷ xs) s t j W y c =
        let told = tells x c.0 c.1 in
        passed xs y.0 t j (goes W y.1 told.1) y.2 (subst (λ k. FoldsTo R k xs j) told.0 c.2)

module _ {F : Type 0} {c : Mut F ((Spot × ℕ) × Unit {0}) Bool} {g : Geometry} {s : walk.Walk} {f : F} {r : Bool} (u : walk.Walk) where
  pub all_in_walk : {o n : ℕ} (p : ℕ → Bool) → ChecksAll Steps c s f r u → Allowed g → s.g ≡ g → Walk g o n s.at s.left → first_touched g o ≡ s.at.position.0
      → ((x : Spot × ℕ) (b : Bool) (q : F) → Called c f (x, tt) b q → (q ≡ f) × (b ≡ p x.0.position.0))
      → r ≡ all_from (first_touched g o) (end_touched g o n) p
  all_in_walk {o} {n} p ran A is W first tells = ends ran.1 ran.3.2 ran.5
    where
      it : (ran.2 ≡ f) × Stands g o n p ran.3.0
      it = passed A p (λ q x h. Called c q (x, tt) true h) f (λ x q k. let t = tells x true q k in (t.0, sym t.1)) ran.0 s ran.3.0 ran.2
          (record { geometry = is; is = W; seen = rw (← first) (from_none (first_touched g o) p) }) ran.3.1 ran.4

      ends : (z : Option (Spot × ℕ)) → Steps ran.3.0 z u → MatchOption z (r ≡ true) (λ x. (r ≡ false) × ((h : F) × Called c ran.2 (x, tt) false h))
          → r ≡ all_from (first_touched g o) (end_touched g o n) p
      ends None y t = t ∙ sym (rw (← walk_end A it.1.is y) it.1.seen)
      ends (Some x) y t =
          let S = same_step it.1.geometry y.0 in
          let told = tells x false t.1.0 (subst (λ z. Called c z (x, tt) false t.1.0) it.0 t.1.1) in
          t.0 ∙ sym (not_all_from _ _ p _ it.1.is.low (walk_in A it.1.is S.some) (rw S.from at (sym told.1)))
