-- A copy from one list of bytes over another: done where the lengths agree, refused otherwise.
use Rattle.std.specs.Prelude.{ℕ, cond, List, eqb, length}

unfoldable pub answered : List ℕ → List ℕ → ℕ
answered from to = cond (eqb (length from) (length to)) 0 1

unfoldable pub left : List ℕ → List ℕ → List ℕ
left from to = cond (eqb (length from) (length to)) from to
