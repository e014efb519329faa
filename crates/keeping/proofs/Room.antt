-- So many blocks hold n pages more exactly where n is at most the pages that they leave.
use Prim.Native.Nat.{ℕ, ◌+◌, ◌-◌, ◌*◌, ◌≤◌, ◌<◌}
use mathlib.Core.Bool.{true}
use mathlib.Core.Path.{◌≡◌}
use mathlib.Core.List.{List}
use native.Mathlib.Omega.{arith}
use native.Mathlib.Nat.{mul-le-mul, mul-le-mul_right}
use native.Mathlib.Decide.{dec_le}
use borrow.Author.Tests.{le-leb, lt-leb}
use lib.Dec.{leb}
use Rattle.paper.specs.declared.Geometry.{Geometry}
use Rattle.paper.specs.Geometry.{most_pages, most_blocks, reclaimed, Allowed, need}
use Rattle.paper.specs.Image.{taken, pages_of, is_open, need_of}
use Rattle.paper.proofs.Arithmetic.{need_enough, need_below}
use Rattle.rules.specs.Facts.{Formed}
use Rattle.rules.proofs.Facts.{open_below, need_open}
use Rattle.rules.proofs.Counting.{need_taken}

module _ (g : Geometry) (pos : 1 ≤ g.pages) (old x : ℕ) where
  -- the old pages are among them
  pub holds_old : old ≤ (need g old + x) * g.pages
  holds_old = omega (arith, need_enough g pos old, mul-le-mul_right {m = need g old} {n = need g old + x} g.pages (omega arith))

  pub room_is : (n : ℕ) → leb n ((need g old + x) * g.pages - old) ≡ leb (need g (old + n) - need g old) x
  room_is n = go (dec_le (old + n) ((need g old + x) * g.pages))
    where
      go : Dec (old + n ≤ (need g old + x) * g.pages) → leb n ((need g old + x) * g.pages - old) ≡ leb (need g (old + n) - need g old) x
      go (yes h) =
          let k = need_below g pos (old + n) (need g old + x) h in
          rw (le-leb n ((need g old + x) * g.pages - old) (omega (arith, holds_old)), le-leb (need g (old + n) - need g old) x (omega arith))
      go (no h) =
          rw (lt-leb n ((need g old + x) * g.pages - old) (omega (arith, holds_old)), lt-leb (need g (old + n) - need g old) x (more (dec_le (need g (old + n)) (need g old + x))))
        where
          more : Dec (need g (old + n) ≤ need g old + x) → x < need g (old + n) - need g old
          more (no l) = omega arith
          more (yes l) = absurd (omega (arith, need_enough g pos (old + n), mul-le-mul_right g.pages l))

-- the numbers are small: each part of the sum is at most B
pub room_small : (g : Geometry) → Allowed g → (cap : ℕ) → cap ≤ g.blocks → (t : List ℕ) → Formed g cap t → (r : ℕ) → is_open g t r ≡ true
    → need g (pages_of g t r) + (need_of g t reclaimed + (cap - taken g t)) ≤ 3 * most_blocks
room_small g A cap most t F r o =
    rw (← need_open g t r o)
    (omega (
      arith,
      need_taken g t F.rules r (open_below g t r o),
      need_taken g t F.rules reclaimed (omega (arith, A.entries_least)),
      F.tail,
      A.blocks_most,
    ))

pub product_small : (g : Geometry) → Allowed g → (k : ℕ) → k ≤ 3 * most_blocks → k * g.pages ≤ 3 * most_blocks * most_pages
product_small g A k h = mul-le-mul h A.pages_most
