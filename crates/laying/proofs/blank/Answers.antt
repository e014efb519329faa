-- `laying::blank` meets its contract: the bytes that are lent are those of the header.
use Prim.Native.Nat.{ℕ, ◌≤◌}
use mathlib.Core.List.{List}
use mathlib.Core.Path.{◌≡◌, ap, ◌∙◌}
use lib.Dec.{eqb}
use lib.ListN.{get_or, take, length}
use lib.Seq.{get_or-take, length-take-le}
use Rattle.laws.specs.Folds.{all_below}
use Rattle.laws.proofs.Folds.{all_ext}
use Rattle.paper.specs.declared.Geometry.{Geometry}
use Rattle.paper.specs.Geometry.{header_bytes}
use Rattle.paper.specs.Refusals.{blank}
use Rattle.laying.proofs.blank.Goals as goal

-- the test, as it is made of the part that is lent
blank_header : (g : Geometry) (image : List ℕ) → header_bytes ≤ length image
    → all_below (length (take header_bytes image)) (λ i. eqb (get_or (take header_bytes image) i 0) 0) ≡ blank g image
unfolding blank
blank_header g image h =
    rw (length-take-le header_bytes image h)
    (all_ext header_bytes (λ i. eqb (get_or (take header_bytes image) i 0) 0) (λ i. eqb (get_or image i 0) 0)
    (λ i k. ap (λ n. eqb n 0) (get_or-take header_bytes image i 0 k)))

pub returns : goal.returns
returns c = c.all_zero.ensures ∙ blank_header c.args.g c.args.image.now c.requires
