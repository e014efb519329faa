-- Bits in bytes: what is read of one after another was set.
use Prim.Native.Nat.{ℕ, zero, suc, ◌+◌, ◌-◌, ◌*◌, ◌/◌, ◌%◌, ◌^◌, ◌≤◌, ◌<◌}
use mathlib.Core.Bool.{Bool, true, false, ◌&&◌}
use mathlib.Core.Logic.{◌≢◌}
use mathlib.Core.Path.{◌≡◌, refl, sym, ◌∙◌, ap}
use mathlib.Core.List.{List}
use native.Mathlib.Omega.{arith}
use native.Mathlib.Nat.{pow-suc, one-mul, zero-mul, suc-mul, add_comm}
use native.Mathlib.Numerals.{add-one}
use native.Mathlib.Decide.{ℕ_discrete}
use borrow.Author.Tests.{eqb-true, eq-eqb, ne_eqb}
use lib.Bits.{bit_and, bit_or, and_high, and_zero_r, or_shr, or_mod, or_zero_r}
use lib.Pow.{pow_pos, shl_exact}
use lib.Dec.{eqb}
use lib.ListN.{set, length}
use lib.Seq.{get_or-set_same, get_or-set_other}
use Rattle.laws.specs.Folds.{all_below}
use Rattle.laws.proofs.Folds.{all_below_lem}
use Rattle.index.specs.Repeats.{digit, byte_of, unseen, marked}

-- ---- digits
pub digit_least : (q : Bool) → digit q < 2
digit_least true = omega arith
digit_least false = omega arith

pub digit_both : (p q : Bool) → bit_and (digit p) (digit q) ≡ digit (p && q)
digit_both true true = refl
digit_both true false = refl
digit_both false true = refl
digit_both false false = refl

-- ---- the bits of a byte
-- a bit of it is not shifted out
pub bit_fits : (one s : ℕ) → one ≤ 1 → one * 2 ^ (s % 8) % 256 ≡ one * 2 ^ (s % 8)
bit_fits one s h = shl_exact {a = one} 1 (s % 8) 8 (omega arith) (omega arith)

abbrev bit_of : ℕ → ℕ → ℕ
bit_of x k = x / 2 ^ k % 2

bit_or_lem : (x y k : ℕ) → bit_of (bit_or x y) k ≡ bit_or (bit_of x k) (bit_of y k)
bit_or_lem x y k = ap (λ (z : ℕ). z % 2) (or_shr x y k) ∙ or_mod (x / 2 ^ k) (y / 2 ^ k) 1

-- those of a single bit, and of none: a table
abbrev single : ℕ → ℕ → Bool
single k j = eqb (bit_of (2 ^ k) j) (digit (eqb j k))

singles : all_below 8 (λ k. all_below 8 (single k)) ≡ true
unfolding all_below
singles = refl

single_bit : (k j : ℕ) → k < 8 → j < 8 → bit_of (2 ^ k) j ≡ digit (eqb j k)
single_bit k j hk hj = eqb-true _ _ (all_below_lem 8 (single k) (all_below_lem 8 (λ k. all_below 8 (single k)) singles k hk) j hj)

no_bits : all_below 8 (λ k. eqb (bit_of 0 k) 0) ≡ true
unfolding all_below
no_bits = refl

or_one : (d : ℕ) → d < 2 → bit_or d 1 ≡ 1
or_one zero h = refl
or_one (suc zero) h = refl
or_one (suc (suc d)) h = absurd (omega arith)

-- what a single bit leaves of a number
and_single : (x k : ℕ) → bit_and x (2 ^ k) ≡ bit_of x k * 2 ^ k
and_single x k =
    let p : 2 ^ (1 + k) ≡ 2 ^ k * 2 = rw (add_comm 1 k, add-one k) (pow-suc 2 k) in
    let e : 2 ^ (1 + k) - 2 ^ k ≡ 2 ^ k = rw p (omega arith) in
    rw e at (and_high x 1 k)

scaled : (d p : ℕ) → 0 < p → eqb (d * p) 0 ≡ eqb d 0
scaled zero p h = rw (zero-mul p)
scaled (suc d) p h = ne_eqb (suc d * p) 0 (λ z. omega (arith, suc-mul d p)) ∙ sym (ne_eqb (suc d) 0 (λ z. omega arith))

-- ---- bit s of many bytes
unfoldable pub clear : List ℕ → ℕ → Bool
clear seen s = eqb (bit_of (byte_of s seen) (s % 8)) 0

pub clear_zero : (s : ℕ) (seen : List ℕ) → byte_of s seen ≡ 0 → clear seen s ≡ true
unfolding clear
clear_zero s seen e = rw e (all_below_lem 8 (λ k. eqb (bit_of 0 k) 0) no_bits (s % 8) (omega arith))

pub unseen_none : (s : ℕ) (seen : List ℕ) → unseen s 0 seen ≡ true
unfolding unseen
unseen_none s seen = rw (zero-mul (2 ^ (s % 8)), and_zero_r (byte_of s seen))

pub unseen_one : (s : ℕ) (seen : List ℕ) → unseen s 1 seen ≡ clear seen s
unfolding unseen clear
unseen_one s seen = rw (one-mul (2 ^ (s % 8)), and_single (byte_of s seen) (s % 8)) (scaled _ _ (pow_pos (s % 8)))

-- bit u after bit s was set, or left
module _ (s u : ℕ) (seen : List ℕ) (room : s < 8 * length seen) where
  byte_same : (v : ℕ) → u / 8 ≡ s / 8 → byte_of u (set seen (s / 8) v) ≡ v
  byte_same v e = rw e (get_or-set_same seen (s / 8) v 0 (omega arith))

  byte_other : (v : ℕ) → u / 8 ≢ s / 8 → byte_of u (set seen (s / 8) v) ≡ byte_of u seen
  byte_other v ne = get_or-set_other seen (s / 8) (u / 8) v 0 ne

  pub clear_none : clear (marked s 0 seen) u ≡ clear seen u
  unfolding clear marked
  clear_none = go (ℕ_discrete (u / 8) (s / 8))
    where
      go : Dec (u / 8 ≡ s / 8) → clear (marked s 0 seen) u ≡ clear seen u
      go (yes e) = rw (byte_same (bit_or (byte_of s seen) (0 * 2 ^ (s % 8))) e, zero-mul (2 ^ (s % 8)), or_zero_r (byte_of s seen), e)
      go (no ne) = rw (byte_other (bit_or (byte_of s seen) (0 * 2 ^ (s % 8))) ne)

  pub clear_here : u ≡ s → clear (marked s 1 seen) u ≡ false
  unfolding clear marked
  clear_here e =
      rw (byte_same (bit_or (byte_of s seen) (1 * 2 ^ (s % 8))) (ap (λ (z : ℕ). z / 8) e), e, one-mul (2 ^ (s % 8)), bit_or_lem (byte_of s seen) (2 ^ (s % 8)) (s % 8), single_bit (s % 8) (s % 8) (omega arith) (omega arith), eq-eqb (s % 8) (s % 8) refl, or_one (byte_of s seen / 2 ^ (s % 8) % 2) (omega arith))

  pub clear_else : u ≢ s → clear (marked s 1 seen) u ≡ clear seen u
  unfolding clear marked
  clear_else ne = go (ℕ_discrete (u / 8) (s / 8))
    where
      go : Dec (u / 8 ≡ s / 8) → clear (marked s 1 seen) u ≡ clear seen u
      go (yes e) =
          rw (byte_same (bit_or (byte_of s seen) (1 * 2 ^ (s % 8))) e, one-mul (2 ^ (s % 8)), bit_or_lem (byte_of s seen) (2 ^ (s % 8)) (u % 8), single_bit (s % 8) (u % 8) (omega arith) (omega arith), ne_eqb (u % 8) (s % 8) (λ z. ne (omega arith)), or_zero_r (byte_of s seen / 2 ^ (u % 8) % 2), e)
      go (no d) = rw (byte_other (bit_or (byte_of s seen) (1 * 2 ^ (s % 8))) d)
