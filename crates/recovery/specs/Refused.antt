-- The rules but for the last sentence of d; and the rules as a lent index bears witness to them.
use Rattle.std.specs.Prelude.{Bool, ◌&&◌, ℕ, ◌%◌, List, eqb}
use Rattle.laws.specs.Folds.{all_below}
use Rattle.paper.specs.declared.Geometry.{Geometry}
use Rattle.paper.specs.Geometry.{reclaimed}
use Rattle.paper.specs.Image.{taken, pages_of}
use Rattle.paper.specs.WellFormed.{rule_a, rule_b, rule_c, named, rule_e}
use Rattle.index.specs.Witnessed.{witnessed}

-- rules a, b, c and e, and the first half of d
unfoldable pub loosely : Geometry → List ℕ → Bool
loosely g t = rule_a g t && rule_b g t && rule_c g t && all_below (taken g t) (named g t) && rule_e g t

-- rules a and e, and what an index bears witness to: c, d and the rest of b
unfoldable pub vouched : Geometry → List ℕ → List ℕ → Bool
vouched g t index = rule_a g t && eqb (pages_of g t reclaimed % g.pages) 0 && rule_e g t && witnessed g t index
