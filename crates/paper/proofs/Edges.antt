-- The edges of the ceilings: the widest geometry is allowed and one more is not, and two bytes reach as far as they must.
use Prim.Native.Nat.{ℕ, ◌≤◌, ◌<◌}
use mathlib.Core.Bool.{true, false}
use mathlib.Core.Logic.{◌≢◌}
use mathlib.Core.Path.{◌≡◌, refl}
use native.Mathlib.Omega.{arith}
use Rattle.paper.specs.declared.Geometry.{Geometry}
use Rattle.paper.specs.Geometry.{no_block, block_bytes, allowed, Allowed, no_region}
use Rattle.paper.proofs.Arithmetic.{not_allowed}

-- each of the four numbers at its ceiling
abbrev pub widest : Geometry
widest = record { page = 65536; pages = 128; blocks = 65535; entries = 65536 }

pub widest_allowed : allowed widest ≡ true
unfolding allowed block_bytes
widest_allowed = refl

-- one block, or one region entry, too many
module _ (g : Geometry) where
  pub blocks_beyond : 65536 ≤ g.blocks → allowed g ≡ false
  blocks_beyond h = not_allowed g (λ A. omega (arith, A.blocks_most))

  pub entries_beyond : 65537 ≤ g.entries → allowed g ≡ false
  entries_beyond h = not_allowed g (λ A. omega (arith, A.entries_most))

-- ---- two bytes
module _ (g : Geometry) (A : Allowed g) where
  -- the filler, their last number, is no block
  pub filler_no_block : (b : ℕ) → b < g.blocks → b ≢ no_block
  filler_no_block b h e = omega (arith, e, A.blocks_most)

  -- "no region" is the highest region number that is written
  pub no_region_fits : no_region g < 65536
  no_region_fits = omega (arith, A.entries_most)
