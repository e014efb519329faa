-- What a growth takes can be told before it: region 1's blocks keep their positions while others are granted, so that the index lent at the
-- start gives each of them in turn. So each grant is possible, and the block of every new position is known.
use Prim.Native.Nat.{ℕ, zero, suc, ◌+◌, ◌-◌, ◌≤◌, ◌<◌}
use mathlib.Core.Bool.{true, cond}
use mathlib.Core.Logic.{◌≢◌}
use mathlib.Core.Path.{◌≡◌, sym, ◌∙◌}
use mathlib.Core.List.{List}
use native.Mathlib.Omega.{arith}
use native.Mathlib.Decide.{dec_lt}
use borrow.Author.Tests.{eq-eqb, ne_eqb, lt-ltb, le-ltb}
use lib.Dec.{eqb}
use Rattle.laws.specs.Folds.{steps}
use Rattle.laws.proofs.Folds.{sum_two}
use Rattle.paper.specs.declared.Geometry.{Geometry}
use Rattle.paper.specs.Geometry.{reclaimed, Allowed}
use Rattle.paper.specs.Image.{taken, is_open, need_of, block_of}
use Rattle.paper.specs.Index.{index_of, block_in}
use Rattle.paper.specs.Calls.{granted}
use Rattle.paper.specs.Refusals.{callable}
use Rattle.rules.specs.Facts.{Rules, Formed}
use Rattle.rules.proofs.Facts.{open_below}
use Rattle.rules.proofs.Counting.{need_taken, block_below}
use Rattle.rules.proofs.Index.{block_read, slot_fits}
use Rattle.rules.proofs.Usable.{callable_apart}
use Rattle.keeping.proofs.Grant.{Grown, granted_grown, granted_block}
use Rattle.keeping.proofs.Grow.{grown_all}
use Rattle.tables.specs.declared.Stock.{Stock}
use Rattle.tables.specs.Grant.{stock_of, next_block, block_after, Found, FoundAt, Grantable}

-- the stock, number by number
pub stock_is : (g : Geometry) (t : List ℕ) (r : ℕ) (s : Stock) → (s.held ≡ need_of g t r) × (s.spare ≡ need_of g t reclaimed) × (s.taken ≡ taken g t)
    → s ≡ stock_of g t r
stock_is g t r s e = rw (← e.0, ← e.1, ← e.2)

module _ (g : Geometry) (A : Allowed g) (cap : ℕ) (cap-most : cap ≤ g.blocks) (r : ℕ) (mine : callable r ≡ true) (t : List ℕ) (F : Formed g cap t)
    (o : is_open g t r ≡ true) (index : List ℕ) (e : index ≡ index_of g t) where
  -- the front after j grants, as the paper tells them
  abbrev after : ℕ → List ℕ
  after j = steps j (λ k u. granted g r u) t

  abbrev spare : ℕ
  spare = need_of g t reclaimed

  abbrev room : ℕ
  room = spare + (cap - taken g t)

  abbrev s : Stock
  s = stock_of g t r

  R : Rules g t
  R = F.rules

  bound : taken g t ≤ g.blocks
  bound = F.header.taken_most

  inside : r < g.entries
  inside = open_below g t r o

  one_below : reclaimed < g.entries
  one_below = omega (arith, A.entries_least)

  pub apart : reclaimed ≢ r
  apart = callable_apart r mine reclaimed (omega arith) (omega arith)

  pub grown : (j : ℕ) → j ≤ need_of g t reclaimed + (cap - taken g t) → Grown g cap t reclaimed r j (steps j (λ k u. granted g r u) t)
  grown = grown_all g A cap cap-most r mine t F o

  -- ---- the grant after j others takes the block that was found before
  pub spare_read : (j : ℕ) → j < need_of g t reclaimed → j ≤ need_of g t reclaimed + (cap - taken g t)
      → block_of g (steps j (λ k u. granted g r u) t) reclaimed (need_of g t reclaimed - 1 - j) ≡ block_in g index reclaimed (need_of g t reclaimed - 1 - j)
  spare_read j l h =
      (grown j h).blocks reclaimed (spare - 1 - j) (omega arith) (omega (arith, (grown j h).left))
      ∙ sym (rw e (block_read g A t R bound reclaimed (spare - 1 - j) (omega arith)))

  next_is : (j : ℕ) → j < room
      → cond (eqb (need_of g (after j) reclaimed) 0) (taken g (after j)) (block_of g (after j) reclaimed (need_of g (after j) reclaimed - 1)) ≡ next_block g index s j
  next_is j h = go (dec_lt j spare)
    where
      G : Grown g cap t reclaimed r j (after j)
      G = grown j (omega arith)

      go : Dec (j < spare)
          → cond (eqb (need_of g (after j) reclaimed) 0) (taken g (after j)) (block_of g (after j) reclaimed (need_of g (after j) reclaimed - 1)) ≡ next_block g index s j
      go (yes l) =
          let k : need_of g (after j) reclaimed - 1 ≡ spare - 1 - j = omega (arith, G.left) in
          rw (ne_eqb (need_of g (after j) reclaimed) 0 (λ z. omega (arith, G.left)), lt-ltb j spare l, k) (spare_read j l (omega arith))
      go (no l) = rw (eq-eqb (need_of g (after j) reclaimed) 0 (omega (arith, G.left)), le-ltb j spare (omega arith)) G.count

  -- ---- where the blocks of the grown book lie
  pub block_after_lem : (m : ℕ) → m ≤ need_of g t reclaimed + (cap - taken g t) → (p : ℕ) → p < need_of g t r + m
      → block_of g (steps m (λ k u. granted g r u) t) r p ≡ block_after g index r (stock_of g t r) p
  unfolding steps
  block_after_lem zero h p l =
      rw (lt-ltb p (need_of g t r) (omega arith)) (sym (rw e (block_read g A t R bound r p (omega arith))))
  block_after_lem (suc m) h p l = go (λ k. block_after_lem m (omega arith) p k) (dec_lt p (need_of g t r + m))
    where
      G : Grown g cap t reclaimed r m (after m)
      G = grown m (omega arith)

      left : 0 < need_of g (after m) reclaimed + (cap - taken g (after m))
      left = omega (arith, G.left, G.count, F.tail)

      H : Grown g cap (after m) reclaimed r 1 (granted g r (after m))
      H = granted_grown g A cap cap-most r mine (after m) G.formed (G.opens r ∙ o) left

      go : (p < need_of g t r + m → block_of g (after m) r p ≡ block_after g index r s p) → Dec (p < need_of g t r + m)
          → block_of g (granted g r (after m)) r p ≡ block_after g index r s p
      go before (yes k) = H.blocks r p (omega (arith, G.mine)) (omega (arith, G.mine, H.mine)) ∙ before k
      go before (no k) =
          let d : p ≡ need_of g (after m) r = omega (arith, G.mine) in
          let q : need_of g (after m) r - need_of g t r ≡ m = omega (arith, G.mine) in
          rw (d, le-ltb (need_of g (after m) r) (need_of g t r) (omega (arith, G.mine)), q)
          (granted_block g A cap cap-most r mine (after m) G.formed (G.opens r ∙ o) left ∙ next_is m (omega arith))

  -- ---- each of them can be found
  found : (j : ℕ) → j < room → Found g index s j
  found j h = record {
    spare = λ l. rw e (slot_fits g A t R bound reclaimed (spare - 1 - j) (omega arith));
    new = λ l. omega (arith, F.tail);
  }

  pub found_at : (p : ℕ) → p < need_of g t r + (need_of g t reclaimed + (cap - taken g t)) → FoundAt g index r (stock_of g t r) p
  found_at p h = record {
    inside = inside;
    own = λ l. rw e (slot_fits g A t R bound r p l);
    later = λ l. found (p - need_of g t r) (omega arith);
  }

  -- ---- and each grant is possible
  pub next_below : (j : ℕ) → j < need_of g t reclaimed + (cap - taken g t) → next_block g index (stock_of g t r) j < g.blocks
  next_below j h = go (dec_lt j spare)
    where
      go : Dec (j < spare) → next_block g index s j < g.blocks
      go (yes l) =
          rw (lt-ltb j spare l, e, block_read g A t R bound reclaimed (spare - 1 - j) (omega arith))
          (omega (arith, block_below g t R reclaimed (spare - 1 - j) (omega arith)))
      go (no l) = rw (le-ltb j spare (omega arith)) (omega (arith, F.tail))

  pub grantable : (j : ℕ) → j < need_of g t reclaimed + (cap - taken g t) → Grantable g index r (stock_of g t r) j
  grantable j h = record {
    inside = inside;
    next = omega (arith, R.total, F.tail, sum_two g.entries (need_of g t) r reclaimed (λ d. apart (sym d)) inside one_below);
    fits = omega (arith, need_taken g t R reclaimed one_below);
    block = next_below j h;
    found = found j h;
  }
