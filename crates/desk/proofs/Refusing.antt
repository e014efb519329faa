-- A refusal passed on by `?`: the number and the outcome of the call that passes it on.
use Rattle.std.specs.Prelude.{ℕ, Result, ◌≡◌, []}
use Rattle.std.specs.Result.{IsErrAnd}
use Rattle.std.proofs.lemmas.Result.{err_from_is_err_and}
use Rattle.std.proofs.Common.{sym, ◌≢◌, arith}
use Rattle.paper.specs.declared.Geometry.{Geometry}
use Rattle.paper.specs.declared.Refusal.{Refusal}
use Rattle.paper.specs.declared.Refusal.TheVariants.{GeometryWrong, IndexLength, ImageShort, HeaderWrong, TailMissing, TablesWrong, IndexWrong, Unusable, Beyond, NoRoom, NoRegion, NotBlank, TooFewBlocks, Newer, Stale}
use Rattle.paper.specs.Answers.{Answer, no_of, no_in, answered}
use Rattle.paper.specs.Calls.{Call}
use Rattle.paper.specs.Refusals.{refusal}
use Rattle.paper.specs.Move.{move_refusal, move_outcome}
use Rattle.paper.specs.Outcomes.{State, gives, buffer, outcome}
use Rattle.rules.proofs.Lines.{refused, move_refused}

-- no refusal has the number of "done"
pub not_done : (k : Refusal) → no_of k ≢ 0
not_done GeometryWrong = omega arith
not_done IndexLength = omega arith
not_done ImageShort = omega arith
not_done HeaderWrong = omega arith
not_done TailMissing = omega arith
not_done TablesWrong = omega arith
not_done IndexWrong = omega arith
not_done Unusable = omega arith
not_done Beyond = omega arith
not_done NoRoom = omega arith
not_done NoRegion = omega arith
not_done NotBlank = omega arith
not_done TooFewBlocks = omega arith
not_done Newer = omega arith
not_done Stale = omega arith

-- ---- a Result that passes refusal k on, which is what the line's beginning x answers, has its number
module _ {B : Type 0} (r : Result B Refusal) (k : Refusal) where
  pub number_passed : {x y : ℕ} → IsErrAnd r (λ e. e ≡ k) → no_of k ≡ x → ((n : ℕ) → n ≡ x → n ≢ 0 → y ≡ n) → no_in r ≡ y
  number_passed h e stop = let p = err_from_is_err_and r h in rw (p.1, p.2) (sym (stop (no_of k) e (not_done k)))

-- ---- and the call that answers it leaves all as it was
module _ {B : Type 0} (done : B → Answer) (r : Result B Refusal) (k : Refusal) (g : Geometry) (c : Call) (s : State) where
  pub outcome_left : IsErrAnd r (λ e. e ≡ k) → refusal g s.image s.index c ≡ no_of k → gives (answered done r) (buffer g c) s ≡ outcome g c s
  outcome_left h e = let p = err_from_is_err_and r h in rw (p.1, p.2) (sym (refused g c s (no_of k) e (not_done k)))

  pub outcome_passed : {x : ℕ} → IsErrAnd r (λ e. e ≡ k) → no_of k ≡ x → ((n : ℕ) → n ≡ x → n ≢ 0 → refusal g s.image s.index c ≡ n)
      → gives (answered done r) (buffer g c) s ≡ outcome g c s
  outcome_passed h e stop = outcome_left h (stop (no_of k) e (not_done k))

-- a move too
module _ {B : Type 0} (done : B → Answer) (r : Result B Refusal) (k : Refusal) (g : Geometry) (m : ℕ) (s : State) where
  pub move_left : IsErrAnd r (λ e. e ≡ k) → move_refusal g m s.image s.index ≡ no_of k → gives (answered done r) [] s ≡ move_outcome g m s
  move_left h e = let p = err_from_is_err_and r h in rw (p.1, p.2) (sym (move_refused g m s (no_of k) e (not_done k)))
