-- An image's parts: its front, the unused rest of its reserve, and its data. What a change of one leaves of the others, and the rest of the reserve
-- zeroed.
use Prim.Native.Nat.{ℕ, ◌+◌, ◌-◌, ◌≤◌, ◌<◌}
use mathlib.Core.Bool.{Bool, true}
use mathlib.Core.Logic.{◌↔◌}
use mathlib.Core.Path.{◌≡◌, sym, ◌∙◌, ap}
use mathlib.Core.List.{List, ◌++◌, append_assoc}
use native.Mathlib.Omega.{arith}
use borrow.Author.Tests.{eqb-true, eq-eqb}
use lib.Dec.{eqb}
use lib.ListN.{take, drop, get_or, length, replicate, length-append, length-drop, length-replicate, get_or-replicate, take-append-drop}
use lib.Seq.{ext_get_or, get_or-take, get_or-drop, length-take-le, take_at, drop_at, drop-append-le}
use Rattle.laws.specs.Folds.{all_below}
use Rattle.laws.specs.Bytes.{splice}
use Rattle.laws.proofs.Folds.{all_ext, all_below_lem, below_all}
use Rattle.laws.proofs.Lists.{length_part}
use Rattle.paper.specs.declared.Geometry.{Geometry}
use Rattle.paper.specs.Geometry.{block_bytes, Allowed, front_bytes}
use Rattle.paper.specs.Image.{front, rest, unused, data_of, blanked}
use Rattle.paper.specs.Refusals.{unused_blank}
use Rattle.rules.proofs.Cells.{length_front, length_joined}

module _ (g : Geometry) (A : Allowed g) where
  abbrev fb : ℕ
  fb = front_bytes g

  abbrev bb : ℕ
  bb = block_bytes g

  -- the bytes of the rest of the reserve, and the test of them
  unused_at : (image : List ℕ) (k : ℕ) → k < bb - fb → get_or (unused g image) k 0 ≡ get_or image (fb + k) 0
  unused_at image k h = get_or-drop fb (take bb image) k 0 ∙ get_or-take bb image (fb + k) 0 (omega arith)

  pub blank_same : (image later : List ℕ) → unused g image ≡ unused g later → unused_blank g image ≡ unused_blank g later
  unfolding unused_blank
  blank_same image later e =
      all_ext (bb - fb) (λ k. eqb (get_or image (fb + k) 0) 0) (λ k. eqb (get_or later (fb + k) 0) 0)
      (λ k h. ap (λ n. eqb n 0) (sym (unused_at image k h) ∙ ap (λ xs. get_or xs k 0) e ∙ unused_at later k h))

  -- ---- the parts of a list that is put together of them
  module _ (t u xs : List ℕ) (full : length t ≡ front_bytes g) (wide : length u ≡ block_bytes g - front_bytes g) where
    reserved : length (t ++ u) ≡ bb
    reserved = rw length-append (omega (arith, A.reserve))

    pub front_of : front g (t ++ (u ++ xs)) ≡ t
    front_of = take_at t (u ++ xs) fb full

    pub unused_of : unused g (t ++ (u ++ xs)) ≡ u
    unused_of = ap (drop fb) (rw append_assoc at (take_at (t ++ u) xs bb reserved)) ∙ drop_at t u fb full

    pub data_of_lem : data_of g (t ++ (u ++ xs)) ≡ xs
    data_of_lem = rw append_assoc at (drop_at (t ++ u) xs bb reserved)

    pub length_of : length (t ++ (u ++ xs)) ≡ bb + length xs
    length_of = rw (← append_assoc t u xs, length-append (t ++ u) xs, reserved)

  module _ (image : List ℕ) (long : block_bytes g ≤ length image) where
    full_front : length (front g image) ≡ fb
    full_front = length_front g image (omega (arith, A.reserve))

    pub length-unused : length (unused g image) ≡ block_bytes g - front_bytes g
    length-unused = length-drop fb (take bb image) ∙ rw (length-take-le bb image long)

    length_data : bb + length (data_of g image) ≡ length image
    length_data = rw (length-drop bb image) (omega arith)

    rest_parts : rest g image ≡ unused g image ++ data_of g image
    rest_parts =
        ap (drop fb) (sym (take-append-drop bb image))
        ∙ drop-append-le fb (take bb image) (data_of g image) (rw (length-take-le bb image long) (omega (arith, A.reserve)))

    -- ---- tables written anew
    module _ (t : List ℕ) (full : length t ≡ front_bytes g) where
      pub unused_joined : unused g (t ++ rest g image) ≡ unused g image
      unused_joined = rw rest_parts (unused_of t (unused g image) (data_of g image) full length-unused)

      pub data_of_joined : data_of g (t ++ rest g image) ≡ data_of g image
      data_of_joined = rw rest_parts (data_of_lem t (unused g image) (data_of g image) full length-unused)

    -- ---- the rest of the reserve zeroed
    abbrev zeros : List ℕ
    zeros = replicate (bb - fb) 0

    wide_zeros : length zeros ≡ bb - fb
    wide_zeros = length-replicate (bb - fb) 0

    pub zeros_written : splice (front_bytes g) (replicate (block_bytes g - front_bytes g) 0) image ≡ blanked g image
    unfolding splice
    zeros_written =
        let e : fb + length zeros ≡ bb = rw wide_zeros (omega (arith, A.reserve)) in
        rw e

    pub front_blanked : front g (blanked g image) ≡ front g image
    front_blanked = front_of (front g image) zeros (data_of g image) full_front wide_zeros

    pub unused_blanked : unused g (blanked g image) ≡ replicate (block_bytes g - front_bytes g) 0
    unused_blanked = unused_of (front g image) zeros (data_of g image) full_front wide_zeros

    pub data_blanked : data_of g (blanked g image) ≡ data_of g image
    data_blanked = data_of_lem (front g image) zeros (data_of g image) full_front wide_zeros

    pub length-blanked : length (blanked g image) ≡ length image
    length-blanked = length_of (front g image) zeros (data_of g image) full_front wide_zeros ∙ length_data

    rest_blanked : rest g (blanked g image) ≡ zeros ++ data_of g image
    rest_blanked = drop_at (front g image) (zeros ++ data_of g image) fb full_front

    -- the test, as it is made of the part that is lent
    pub blank_part : (from to : ℕ) → from ≡ front_bytes g → to ≡ block_bytes g
        → all_below (length (take (to - from) (drop from image))) (λ k. eqb (get_or (take (to - from) (drop from image)) k 0) 0) ≡ unused_blank g image
    unfolding unused_blank
    blank_part from to f t =
        rw (f, t, length_part fb bb image A.reserve long)
        (all_ext (bb - fb) (λ k. eqb (get_or (take (bb - fb) (drop fb image)) k 0) 0) (λ k. eqb (get_or image (fb + k) 0) 0)
        (λ k h. ap (λ n. eqb n 0) (get_or-take (bb - fb) (drop fb image) k 0 h ∙ get_or-drop fb image k 0)))

    -- the test passes exactly there
    pub blank_exactly : (unused_blank g image ≡ true) ↔ (unused g image ≡ replicate (block_bytes g - front_bytes g) 0)
    unfolding unused_blank
    blank_exactly = (zero, passes)
      where
        test : ℕ → Bool
        test k = eqb (get_or image (fb + k) 0) 0

        zero : all_below (bb - fb) test ≡ true → unused g image ≡ zeros
        zero b =
            ext_get_or 0 (unused g image) zeros (length-unused ∙ sym wide_zeros) (λ k h.
            let l : k < bb - fb = omega (arith, length-unused) in
            unused_at image k l ∙ eqb-true _ _ (all_below_lem (bb - fb) test b k l) ∙ sym (get_or-replicate (bb - fb) k 0 0 l))

        passes : unused g image ≡ zeros → all_below (bb - fb) test ≡ true
        passes e =
            below_all (bb - fb) test (λ k l.
            eq-eqb _ _ (sym (unused_at image k l) ∙ ap (λ xs. get_or xs k 0) e ∙ get_or-replicate (bb - fb) k 0 0 l))

  -- ---- what stands in the front has no part in the blanked rest
  pub blanked_rest : (t image : List ℕ) → length t ≡ front_bytes g → block_bytes g ≤ length image
      → rest g (blanked g (t ++ rest g image)) ≡ rest g (blanked g image)
  blanked_rest t image full long =
      let l : length (t ++ rest g image) ≡ length image = length_joined g t image full (omega (arith, A.reserve)) in
      rest_blanked (t ++ rest g image) (rw l long) ∙ rw (data_of_joined image long t full) (sym (rest_blanked image long))
