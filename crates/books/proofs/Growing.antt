-- A growth: its numbers are small, each grant is possible, the blocks of the new pages are found before it, and zeros there first, then the
-- tables, are what the paper tells.
use Prim.Native.Nat.{ℕ, ◌+◌, ◌*◌, ◌^◌, ◌≤◌, ◌<◌}
use mathlib.Core.Bool.{true}
use mathlib.Core.Path.{◌≡◌, sym, ◌∙◌}
use mathlib.Core.List.{List}
use native.Mathlib.Omega.{arith}
use native.Mathlib.Nat.{add-mul}
use borrow.Author.Tests.{ne_eqb}
use lib.ListN.{length, replicate}
use Rattle.laws.specs.Folds.{steps}
use Rattle.paper.specs.declared.Geometry.{Geometry}
use Rattle.paper.specs.Geometry.{block_bytes, Allowed, data_at, need, capacity, most_book_pages}
use Rattle.paper.specs.Image.{front, pages_of, is_open, need_of, block_of, set_pages}
use Rattle.paper.specs.Calls.{new_blocks, grown_front, grown, stored}
use Rattle.paper.specs.Refusals.{callable}
use Rattle.paper.proofs.Arithmetic.{capacity_blocks, need_mono, book_bytes_bound}
use Rattle.rules.specs.Facts.{Formed, fronted}
use Rattle.rules.specs.Touched.{end_touched}
use Rattle.rules.proofs.Facts.{open_below, need_open}
use Rattle.rules.proofs.Touched.{end_need}
use Rattle.rules.proofs.Usable.{usable_facts}
use Rattle.keeping.specs.Kept.{zeroed_new}
use Rattle.keeping.proofs.Stored.{stored_ext}
use Rattle.keeping.proofs.Grow.{GrownTo, grown_front_to, grown_blocks}
use Rattle.keeping.proofs.Growth.{zeroed-length, zeroed_front, zeroed_then, grown_within}
use Rattle.tables.specs.Grant.{stock_of, block_after, placed, FoundAt, Grantable}
use Rattle.tables.proofs.Spare.{grantable, found_at, block_after_lem}
use Rattle.tables.proofs.Placed.{placed_all}
use Rattle.books.specs.Room.{Growing}

module _ (g : Geometry) (image index : List ℕ) (r n : ℕ) (W : Growing g image index r n) where
  abbrev t : List ℕ
  t = front g image

  abbrev u : List ℕ
  u = grown_front g r n t

  abbrev cap : ℕ
  cap = capacity g (length image)

  A : Allowed g
  A = W.ordered.geometry

  F : Formed g cap t
  F = W.ordered.formed

  mine : callable r ≡ true
  mine = (usable_facts g t r W.usable).0

  pub opened : is_open g (front g image) r ≡ true
  opened = (usable_facts g t r W.usable).2

  pub inside : r < g.entries
  inside = open_below g t r opened

  -- ---- the blocks
  pub need_up : need g (pages_of g (front g image) r) ≤ need g (pages_of g (front g image) r + n)
  need_up = need_mono g A.pages_least (pages_of g t r) (pages_of g t r + n) (omega arith)

  pub each_grantable : (j : ℕ) → j < new_blocks g r n (front g image) → Grantable g index r (stock_of g (front g image) r) j
  each_grantable j h =
      grantable g A cap (capacity_blocks g (length image)) r mine t F opened index W.ordered.recovered j (omega (arith, W.room))

  -- the grants and then the page count are the grown front
  pub placed_front : set_pages g r (pages_of g (front g image) r + n) (steps (new_blocks g r n (front g image)) (placed g index r (stock_of g (front g image) r)) (front g image))
      ≡ grown_front g r n (front g image)
  unfolding grown_front
  placed_front =
      placed_all g A cap (capacity_blocks g (length image)) r mine t F opened index W.ordered.recovered (new_blocks g r n t) W.room (pages_of g t r + n)

  pub grows : GrownTo g (capacity g (length image)) (front g image) r (pages_of g (front g image) r + n) (grown_front g r n (front g image))
  grows = grown_front_to g A cap (capacity_blocks g (length image)) r mine t F opened n W.room

  open_u : is_open g u r ≡ true
  open_u = grows.opens r ∙ opened

  need_u : need_of g u r ≡ need g (pages_of g t r + n)
  need_u = need_open g u r open_u ∙ rw grows.size

  all_blocks_lem : need_of g u r ≡ need_of g t r + new_blocks g r n t
  all_blocks_lem = omega (arith, need_u, need_open g t r opened, need_up)

  -- ---- the block of each position, before it is granted
  pub findable : (p : ℕ) → p < need_of g (grown_front g r n (front g image)) r → FoundAt g index r (stock_of g (front g image) r) p
  findable p h =
      found_at g A cap (capacity_blocks g (length image)) r mine t F opened index W.ordered.recovered p (omega (arith, all_blocks_lem, W.room))

  found_block : (p : ℕ) → p < need_of g u r → block_after g index r (stock_of g t r) p ≡ block_of g u r p
  found_block p h =
      sym (grown_blocks g A cap (capacity_blocks g (length image)) r mine t F opened n W.room r p h
      ∙ block_after_lem g A cap (capacity_blocks g (length image)) r mine t F opened index W.ordered.recovered (new_blocks g r n t) W.room p (omega (arith, all_blocks_lem)))

  pub block_inside : (p : ℕ) → p < need_of g (grown_front g r n (front g image)) r
      → data_at g (block_after g index r (stock_of g (front g image) r) p) + block_bytes g ≤ length image
  block_inside p h = rw (found_block p h) (grown_within g A image W.ordered.long t F r mine opened n W.room p h)

  -- ---- the pages and their bytes
  pub pages_most : pages_of g (front g image) r + n ≤ most_book_pages g
  pages_most = rw grows.size at (grows.formed.rules.fits r open_u)

  pub bytes_most : pages_of g (front g image) r * g.page + n * g.page < 2 ^ 40
  bytes_most = omega (arith, add-mul (pages_of g t r) n g.page, book_bytes_bound g (pages_of g t r + n) A pages_most)

  pub last_touched : end_touched g (pages_of g (front g image) r * g.page) (n * g.page) ≤ need_of g (grown_front g r n (front g image)) r
  last_touched = rw need_u (end_need g A (pages_of g t r * g.page) (n * g.page) (pages_of g t r + n) (omega (arith, add-mul (pages_of g t r) n g.page)))

  -- ---- the zeros, laid where the blocks will be
  pub zeros_found : stored g (block_after g index r (stock_of g (front g image) r)) (need_of g (grown_front g r n (front g image)) r) (pages_of g (front g image) r * g.page) (replicate (n * g.page) 0) image
      ≡ zeroed_new g r n (front g image) image
  zeros_found = stored_ext g (block_after g index r (stock_of g t r)) (block_of g u r) (need_of g u r) (pages_of g t r * g.page) (replicate (n * g.page) 0) image found_block

  -- with them the tables stand, and with the grown front the image is what the paper tells
  module _ (later : List ℕ) (e : later ≡ zeroed_new g r n (front g image) image) where
    same_front : front g later ≡ front g image
    same_front = rw e (zeroed_front g A image W.ordered.long t F r mine opened n W.room)

    same_length : length later ≡ length image
    same_length = rw e (zeroed-length g A image W.ordered.long t F r mine opened n W.room)

    pub still_growing : Growing g later index r n
    still_growing = record {
      ordered = record {
        geometry = A;
        long = rw same_length W.ordered.long;
        formed = rw (same_front, same_length) F;
        recovered = rw same_front W.ordered.recovered;
      };
      usable = rw same_front W.usable;
      room = rw (same_front, same_length) W.room;
    }

    pub grown_then : 0 < n → (last : List ℕ) → last ≡ fronted g (grown_front g r n (front g later)) later → last ≡ grown g r n image
    unfolding grown
    grown_then pos last d =
        d ∙ rw (same_front, e, ne_eqb n 0 (λ z. omega arith)) (zeroed_then g A image W.ordered.long t F r mine opened n W.room)
