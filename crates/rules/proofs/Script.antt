-- What the buffer that a script's load is lent held before has no influence on its line: a done load replaces it, a refused one answers 0.
use Prim.Native.Nat.{ℕ}
use mathlib.Core.Path.{◌≡◌, ◌∙◌}
use mathlib.Core.List.{List}
use native.Mathlib.Decide.{ℕ_discrete}
use lib.ListN.{length}
use Rattle.paper.specs.Geometry.{bench}
use Rattle.paper.specs.Calls.{load}
use Rattle.paper.specs.Outcomes.{State}
use Rattle.paper.specs.Script.{called}
use Rattle.rules.specs.Lines.{read_no}
use Rattle.rules.proofs.Lines.{load_number, refused, load_done}

pub buffer_replaced : (r d o : ℕ) (xs ys : List ℕ) (s : State) → length xs ≡ length ys → called (load r d o xs) s ≡ called (load r d o ys) s
unfolding called
buffer_replaced r d o xs ys s e = go (ℕ_discrete k 0)
  where
    k : ℕ
    k = read_no bench s.image s.index r d o (length ys)

    x : read_no bench s.image s.index r d o (length xs) ≡ read_no bench s.image s.index r d o (length ys)
    x = rw e

    go : Dec (read_no bench s.image s.index r d o (length ys) ≡ 0) → called (load r d o xs) s ≡ called (load r d o ys) s
    go (yes z) =
        rw (
          load_done bench s r d o xs (load_number bench s.image s.index r d o xs ∙ x ∙ z),
          load_done bench s r d o ys (load_number bench s.image s.index r d o ys ∙ z),
          e,
        )
    go (no ne) =
        rw (
          refused bench (load r d o xs) s k (load_number bench s.image s.index r d o xs ∙ x) ne,
          refused bench (load r d o ys) s k (load_number bench s.image s.index r d o ys) ne,
        )
