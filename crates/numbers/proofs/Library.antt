-- What the library says of a number's bytes and of a lent part, in the words of laws.
use Prim.Native.Nat.{ℕ, zero, suc, ◌+◌, ◌-◌, ◌*◌, ◌/◌, ◌%◌, ◌^◌, ◌<◌}
use mathlib.Core.Path.{◌≡◌, refl, sym, ◌∙◌, ap}
use mathlib.Core.List.{List}
use native.Mathlib.Omega.{arith}
use native.Mathlib.Nat.{div-one, div-div-eq-div-mul, pow-suc}
use native.Mathlib.Numerals.{add-one}
use borrow.Rule.Slice.PartMut.{put_mid}
use lib.ListN.{get_or, length}
use Rattle.std.specs.Int.{byte_at, byte_worth, bytes_low_first, sum_through}
use Rattle.laws.specs.Bytes.{num, le, splice, put}
use Rattle.laws.proofs.Bytes.{length-le, num_join, num_one}
use Rattle.laws.proofs.Lists.{put-splice}

-- a part that was lent as &mut xs[a..a + k] and came back as ys
pub part_back : (a k : ℕ) (xs ys zs : List ℕ) → zs ≡ ys → length ys ≡ k → put_mid a k xs zs ≡ splice a ys xs
part_back a k xs ys zs e l = put-splice a k xs zs (rw e l) ∙ ap (λ (t : List ℕ). splice a t xs) e

-- ---- the bytes of a number
byte_is : (i x : ℕ) → byte_at i x ≡ x / 256 ^ i % 256
byte_is zero x = rw div-one
byte_is (suc i) x = refl

low_bytes : (w i x : ℕ) → bytes_low_first i w x ≡ le w (x / 256 ^ i)
unfolding le
low_bytes zero i x = refl
low_bytes (suc w) i x =
    let e : x / 256 ^ suc i ≡ x / 256 ^ i / 256 = rw pow-suc (sym (div-div-eq-div-mul x (256 ^ i) 256)) in
    rw (byte_is i x, low_bytes w (suc i) x, e)

pub bytes_written : (w at x : ℕ) (xs zs : List ℕ) → zs ≡ bytes_low_first 0 w x → put_mid at (at + w - at) xs zs ≡ put w at x xs
bytes_written w at x xs zs e =
    let k : zs ≡ le w x = e ∙ rw div-one at (low_bytes w 0 x) in
    part_back at (at + w - at) xs (le w x) zs k (omega (arith, length-le w x))

-- ---- the number of bytes
abbrev pub byte_from : List ℕ → ℕ → ℕ → ℕ
byte_from xs at zero = get_or xs at 0
byte_from xs at (suc i) = get_or xs (at + suc i) 0

sum_read : (k : ℕ) (xs : List ℕ) (at : ℕ) → num (suc k) xs at ≡ sum_through (λ i. byte_worth i (byte_from xs at i)) k
sum_read zero xs at = num_one xs at
sum_read (suc k) xs at =
    let j : num (suc (suc k)) xs at ≡ num (suc k) xs at + 256 ^ suc k * num 1 xs (at + suc k) = rw add-one at (num_join (suc k) 1 xs at) in
    rw (← sum_read k xs at, j, num_one) (omega arith)

pub bytes_read : (w : ℕ) (xs : List ℕ) (at : ℕ) → 0 < w → num w xs at ≡ sum_through (λ i. byte_worth i (byte_from xs at i)) (w - 1)
bytes_read zero xs at h = absurd (omega arith)
bytes_read (suc k) xs at h = let e : suc k - 1 ≡ k = omega arith in rw e (sum_read k xs at)
