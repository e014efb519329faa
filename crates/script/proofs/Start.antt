-- The lay that the script starts with is not refused: by computation.
use mathlib.Core.Bool.{true}
use mathlib.Core.Path.{◌≡◌, refl, ◌∙◌, ap}
use mathlib.Core.List.{[]}
use Rattle.std.specs.Prelude.{Result, Ok, Err}
use Rattle.std.specs.Result.{is_ok}
use Rattle.laws.specs.Folds.{all_below}
use Rattle.paper.specs.declared.Refusal.{Refusal}
use Rattle.paper.specs.declared.Version.TheVariants.{Two}
use Rattle.paper.specs.Answers.{answered, plain}
use Rattle.paper.specs.Bench.{zeroed}
use Rattle.paper.specs.Geometry.{bench, block_bytes, allowed}
use Rattle.paper.specs.Calls.{lay}
use Rattle.paper.specs.Refusals.{first, blank, checks}
use Rattle.paper.specs.Outcomes.{State, Outcome, gives, accepted, outcome}
use Rattle.desk.proofs.Refusing.{not_done}

started : (outcome bench (lay Two) zeroed).number ≡ 0
unfolding all_below block_bytes allowed first blank checks accepted outcome
started = refl

pub laid_lem : (q : Result (Unit {0}) Refusal) (s : State) → gives (answered plain q) [] s ≡ outcome bench (lay Two) zeroed → is_ok q ≡ true
laid_lem (Ok x) s e = refl
laid_lem (Err k) s e = absurd (not_done k (ap (λ (o : Outcome). o.number) e ∙ started))
