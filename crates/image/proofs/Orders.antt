-- The derived orders of the paper's kinds, as tests of their numbers.
use Prim.Native.Nat.{ℕ, ◌≤◌, ◌<◌}
use mathlib.Core.Bool.{true, false}
use mathlib.Core.Path.{◌≡◌, refl, sym, ◌∙◌}
use native.Mathlib.Omega.{arith}
use borrow.Author.Tests.{lt-ltb, le-ltb, lt-leb, le-leb, ltb-true, ltb-false}
use lib.Dec.{ltb, leb}
use Rattle.std.specs.declared.cmp.Ordering.{Ordering}
use Rattle.std.specs.declared.cmp.Ordering.TheVariants.{Less, Equal, Greater}
use Rattle.std.specs.Ordering.{MatchOrdering, nat_cmp, is_lt, is_le}
use Rattle.std.proofs.lemmas.Cmp.{ranked}

module _ (x y : ℕ) where
  lt_test : (o : Ordering) → MatchOrdering o (x < y) (x ≡ y) (y < x) → is_lt o ≡ ltb x y
  lt_test Less h = sym (lt-ltb x y h)
  lt_test Equal h = sym (le-ltb x y (omega arith))
  lt_test Greater h = sym (le-ltb x y (omega arith))

  le_test : (o : Ordering) → MatchOrdering o (x < y) (x ≡ y) (y < x) → is_le o ≡ leb x y
  le_test Less h = sym (le-leb x y (omega arith))
  le_test Equal h = sym (le-leb x y (omega arith))
  le_test Greater h = sym (lt-leb x y h)

  pub lt_is : is_lt (nat_cmp x y) ≡ ltb x y
  lt_is = lt_test (nat_cmp x y) (ranked x y _ refl)

  pub le_is : is_le (nat_cmp x y) ≡ leb x y
  le_is = le_test (nat_cmp x y) (ranked x y _ refl)

  pub below : is_lt (nat_cmp x y) ≡ true → x < y
  below e = ltb-true x y (sym lt_is ∙ e)

  pub not_below : is_lt (nat_cmp x y) ≡ false → y ≤ x
  not_below e = ltb-false x y (sym lt_is ∙ e)
