-- The rest of the reserve, between the tables and its end: who writes it and who looks at it, and images that differ there alone.
use Rattle.std.specs.Prelude.{ℕ, Bool, true, false, ◌≡◌, List, length}
use Rattle.paper.specs.declared.Geometry.{Geometry}
use Rattle.paper.specs.Image.{front, data_of}
use Rattle.paper.specs.Calls.{Call, lay, «open», grow, load, store, look, size, release, recover}
use Rattle.paper.specs.Outcomes.{Outcome}

-- lay writes it
abbrev pub blanks : Call → Bool
blanks (lay v) = true
blanks «open» = false
blanks (grow r e n) = false
blanks (load r e o buffer) = false
blanks (store r e o bytes) = false
blanks (look r e o) = false
blanks (size r e) = false
blanks (release r e) = false
blanks recover = false

-- recovery looks at it
abbrev pub inspects : Call → Bool
inspects (lay v) = false
inspects «open» = false
inspects (grow r e n) = false
inspects (load r e o buffer) = false
inspects (store r e o bytes) = false
inspects (look r e o) = false
inspects (size r e) = false
inspects (release r e) = false
inspects recover = true

pub record Alike (g : Geometry) (image other : List ℕ) : Type 0 where
  pub fronts : front g image ≡ front g other
  pub blocks : data_of g image ≡ data_of g other
  pub lengths : length image ≡ length other

-- the same answer, and with it number and value, the same bytes handed back and the same index; the images differ there alone
pub record SeenAlike (g : Geometry) (o other : Outcome) : Type 0 where
  pub answer : o.answer ≡ other.answer
  pub bytes : o.bytes ≡ other.bytes
  pub image : Alike g o.state.image other.state.image
  pub index : o.state.index ≡ other.state.index
