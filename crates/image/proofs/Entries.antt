-- All eight bytes of an entry read and written as one number; and rule a, as its passes ask it.
use Prim.Native.Nat.{ℕ, ◌+◌, ◌-◌, ◌*◌, ◌^◌, ◌≤◌, ◌<◌}
use mathlib.Core.Bool.{Bool, true, false, not, ◌&&◌}
use mathlib.Core.Path.{◌≡◌, refl, sym, ◌∙◌, ap}
use mathlib.Core.List.{List}
use native.Mathlib.Omega.{arith}
use native.Mathlib.Decide.{ℕ_discrete, dec_lt}
use borrow.Author.Tests.{eq-eqb, ne_eqb, not-true}
use lib.Arith.{digits_div, digits_mod}
use lib.Dec.{eqb}
use lib.ListN.{length}
use Rattle.laws.specs.Folds.{all_below, all_from}
use Rattle.laws.specs.Bytes.{num, put}
use Rattle.laws.proofs.Tests.{and_left}
use Rattle.laws.proofs.Folds.{all_below_lem, below_all, all_and, all_from_lem}
use Rattle.laws.proofs.Bytes.{num_join, put_join}
use Rattle.std.specs.Prelude.{Option, None, Some}
use Rattle.std.specs.Option.{is_some}
use Rattle.paper.specs.declared.Geometry.{Geometry}
use Rattle.paper.specs.declared.Pages.{Pages}
use Rattle.paper.specs.Geometry.{version3, fixed_regions, size_bytes, half_bytes, all_ones, size_at, edition_at, front_bytes}
use Rattle.paper.specs.Image.{not_open, size_width, front, version_of, counter, size_of, edition_of, is_open, set_size, set_edition, set_not_open}
use Rattle.paper.specs.WellFormed.{current, unreleased, editions_right, rule_a}
use Rattle.rules.specs.Given.{High, given}
use Rattle.rules.proofs.Cells.{version3_width, version2_width, coded_not_open, length-set_size, version_set_size, set_size-put, set_not_open_sizes, edition_kept, edition_lost}
use Rattle.rules.proofs.Fronts.{size_read, open_read, edition_read, edition_none}
use Rattle.rules.proofs.Facts.{is_open_lem, is_not_open}
use Rattle.rules.proofs.Sentences.{given_open}
use Rattle.image.specs.Entries.{sized, fixed, fresh, released_entry}

-- ---- an entry read whole: that of a region never given out has all ones for its size, and zeros in what is left
halves : (low high x : ℕ) → x ≡ low + 256 ^ 4 * high
    → eqb x (all_ones half_bytes) ≡ (not (not (eqb low (all_ones half_bytes))) && eqb high 0)
halves low high x e = go (ℕ_discrete low (all_ones half_bytes)) (ℕ_discrete high 0)
  where
    go : Dec (low ≡ all_ones half_bytes) → Dec (high ≡ 0) → eqb x (all_ones half_bytes) ≡ (not (not (eqb low (all_ones half_bytes))) && eqb high 0)
    go (yes a) (yes z) = rw (eq-eqb x (all_ones half_bytes) (omega arith), eq-eqb low (all_ones half_bytes) a, eq-eqb high 0 z)
    go (yes a) (no z) = rw (ne_eqb x (all_ones half_bytes) (λ n. z (omega arith)), eq-eqb low (all_ones half_bytes) a, ne_eqb high 0 z)
    go (no a) _ = rw (ne_eqb x (all_ones half_bytes) (λ n. a (omega arith)), ne_eqb low (all_ones half_bytes) a)

module _ (g : Geometry) (image : List ℕ) (r : ℕ) (h : r < g.entries) where
  abbrev t : List ℕ
  t = front g image

  abbrev entry : ℕ
  entry = num 8 image (size_at g r)

  fresh_2 : eqb (version_of g t) version3 ≡ false → eqb entry (all_ones size_bytes) ≡ fresh g t r
  fresh_2 d =
      let o = open_read g image r h 8 entry (size_read g image r h 8 (version2_width (version_of g t) d)) in
      rw (edition_none g image r h d, ← o) (go (eqb entry (all_ones size_bytes)))
    where
      go : (b : Bool) → b ≡ (not (not b) && true)
      go true = refl
      go false = refl

  fresh_3 : eqb (version_of g t) version3 ≡ true → eqb entry (all_ones half_bytes) ≡ fresh g t r
  fresh_3 d =
      let v = version_of g t in
      let o = open_read g image r h 4 low (size_read g image r h 4 (version3_width v d)) in
      rw (← o, ← edition_read g image r h d) (halves low high entry (num_join 4 4 image (size_at g r)))
    where
      low : ℕ
      low = num 4 image (size_at g r)

      high : ℕ
      high = num 4 image (edition_at g r)

  pub fresh_read : eqb entry (all_ones (size_width (version_of g t))) ≡ fresh g t r
  fresh_read = go (eqb (version_of g t) version3) refl
    where
      go : (b : Bool) → eqb (version_of g t) version3 ≡ b → eqb entry (all_ones (size_width (version_of g t))) ≡ fresh g t r
      go true d = rw (version3_width (version_of g t) d) (fresh_3 d)
      go false d = rw (version2_width (version_of g t) d) (fresh_2 d)

-- ---- an entry written whole: both halves at once
module _ (g : Geometry) (t : List ℕ) (fits : front_bytes g ≤ length t) (r : ℕ) (h : r < g.entries) where
  abbrev closed : List ℕ
  closed = set_size g r not_open t

  still : front_bytes g ≤ length closed
  still = rw (length-set_size g t fits r not_open h) fits

  pub set_not_open-put : set_not_open g r t ≡ put 8 (size_at g r) (released_entry g t r) t
  set_not_open-put = set_not_open_sizes g r t ∙ go (eqb (version_of g t) version3) refl
    where
      go : (b : Bool) → eqb (version_of g t) version3 ≡ b
          → set_edition g r (edition_of g t r + 1) closed ≡ put 8 (size_at g r) (released_entry g t r) t
      go true d =
          let e = edition_of g t r + 1 in
          let low : all_ones half_bytes < 256 ^ 4 = omega arith in
          let v = version_set_size g t fits r not_open h in
          let half : closed ≡ put 4 (size_at g r) (all_ones half_bytes) t = set_size-put g r t not_open ∙ rw (version3_width (version_of g t) d, coded_not_open 4) in
          edition_kept g closed still r e h (rw v d)
          ∙ ap (put 4 (edition_at g r) e) half
          ∙ sym
          (rw d
          (sym (put_join 4 4 (size_at g r) (e * 256 ^ 4 + all_ones half_bytes) t (omega arith))
          ∙ rw (digits_div e low, digits_mod e low)))
      go false d =
          let v = version_set_size g t fits r not_open h in
          edition_lost g closed still r (edition_of g t r + 1) h (rw v d)
          ∙ set_size-put g r t not_open
          ∙ rw (version2_width (version_of g t) d, coded_not_open 8, d)

-- ---- rule a
module _ (g : Geometry) (t : List ℕ) where
  -- its sentences in another order
  pub rule_a_passes : rule_a g t ≡ (all_below fixed_regions (fixed g t) && all_from (counter g t) g.entries (fresh g t) && all_below g.entries (current g t))
  unfolding rule_a editions_right
  rule_a_passes =
      let c = counter g t in
      let e = g.entries in
      rw (
        all_and fixed_regions (is_open g t) (unreleased g t),
        all_and (e - c) (λ k. not (is_open g t (c + k))) (λ k. unreleased g t (c + k)),
      )
      (go (all_below fixed_regions (is_open g t)) (all_from c e (λ r. not (is_open g t r))) (all_below fixed_regions (unreleased g t)) (all_from c e (unreleased g t)) (all_below e (current g t)))
    where
      go : (a b c d u : Bool) → (a && b && (u && c && d)) ≡ (a && c && (b && d) && u)
      go true true true true true = refl
      go true true true true false = refl
      go true true true false true = refl
      go true true true false false = refl
      go true true false d true = refl
      go true true false d false = refl
      go true false true d u = refl
      go true false false d u = refl
      go false b c d u = refl

  pub fresh_high : all_from (counter g t) g.entries (fresh g t) ≡ true → High g t
  fresh_high e r lo hi = not-true _ (and_left _ (unreleased g t r) (all_from_lem (counter g t) g.entries (fresh g t) e r lo hi))

  -- where no region from C on is open, only the others count
  pub current_given : High g t → all_below (given g t) (current g t) ≡ true → all_below g.entries (current g t) ≡ true
  current_given high e = below_all g.entries (current g t) (λ r l. go r (dec_lt r (given g t)))
    where
      go : (r : ℕ) → Dec (r < given g t) → current g t r ≡ true
      go r (yes l) = all_below_lem (given g t) (current g t) e r l
      go r (no l) = rw (given_open g t high r (omega arith))

  -- so all of them are current where those that count are
  pub given_current : High g t → all_below (given g t) (current g t) ≡ all_below g.entries (current g t)
  given_current high = go _ _ refl refl
    where
      go : (a b : Bool) → all_below (given g t) (current g t) ≡ a → all_below g.entries (current g t) ≡ b → a ≡ b
      go true b d e = sym (current_given high d) ∙ e
      go false false d e = refl
      go false true d e = sym d ∙ below_all (given g t) (current g t) (λ r l. all_below_lem g.entries (current g t) e r (omega arith))

-- ---- what an entry says of its book
module _ (g : Geometry) (t : List ℕ) (r : ℕ) where
  pub open_sized : r < g.entries → (o : Option Pages) → size_of g t r ≡ sized o → is_some o ≡ is_open g t r
  open_sized h (Some n) e = sym (is_open_lem g t r h n.0 e)
  open_sized h None e = sym (is_not_open g t r e)
