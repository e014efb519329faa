-- A growth cut short among its tables: until the page count is written the needs sum to less than N, so that recovery refuses, whatever stands
-- in the blocks' entries.
use Prim.Native.Nat.{ℕ, zero, suc, ◌+◌, ◌-◌, ◌*◌, ◌≤◌, ◌<◌}
use mathlib.Core.Bool.{true}
use mathlib.Core.Logic.{◌≢◌}
use mathlib.Core.Path.{◌≡◌, refl, sym, ◌∙◌, ap}
use mathlib.Core.List.{List}
use native.Mathlib.Omega.{arith}
use native.Mathlib.Decide.{dec_lt}
use borrow.Author.Tests.{lt-ltb, le-ltb}
use lib.ListN.{length}
use Rattle.laws.specs.Folds.{sum_below, steps}
use Rattle.laws.proofs.Folds.{sum_ext, sum_bump}
use Rattle.paper.specs.declared.Geometry.{Geometry}
use Rattle.paper.specs.Geometry.{reclaimed, Allowed, front_bytes}
use Rattle.paper.specs.Image.{front, taken, size_of, is_open, need_of, set_pages}
use Rattle.paper.specs.Index.{index_of}
use Rattle.paper.specs.Calls.{recover, granted}
use Rattle.paper.specs.Refusals.{callable, refusal}
use Rattle.rules.specs.Facts.{Formed}
use Rattle.rules.proofs.Facts.{open_below, need_same}
use Rattle.rules.proofs.Lines.{recover_accepted}
use Rattle.keeping.proofs.Writes.{SizeSet, set_taken_lem, set_entry_lem, set_pages_lem}
use Rattle.keeping.proofs.Grant.{Grown}
use Rattle.tables.specs.declared.Stock.{Stock}
use Rattle.tables.specs.Grant.{stock_of, next_block, drawn, placed}
use Rattle.tables.proofs.Spare.{apart, grown, next_below}
use Rattle.tables.proofs.Placed.{drawn_full, there_full, placed_all}

module _ (g : Geometry) (A : Allowed g) (cap : ℕ) (cap-most : cap ≤ g.blocks) (r : ℕ) (mine : callable r ≡ true) (t : List ℕ) (F : Formed g cap t)
    (o : is_open g t r ≡ true) (index : List ℕ) (e : index ≡ index_of g t) where
  abbrev after : ℕ → List ℕ
  after j = steps j (λ k u. granted g r u) t

  abbrev spare : ℕ
  spare = need_of g t reclaimed

  abbrev room : ℕ
  room = spare + (cap - taken g t)

  abbrev s : Stock
  s = stock_of g t r

  abbrev there : ℕ → List ℕ
  there j = steps j (placed g index r s) t

  inside : r < g.entries
  inside = open_below g t r o

  -- ---- no grant changes the book's page count
  module _ (j : ℕ) (h : j < room) (u : List ℕ) (full : length u ≡ front_bytes g) where
    drawn_size : (b : ℕ) → size_of g (drawn g s j b u) r ≡ size_of g u r
    drawn_size b = go (dec_lt j spare)
      where
        go : Dec (j < spare) → size_of g (drawn g s j b u) r ≡ size_of g u r
        go (yes l) =
            rw (lt-ltb j spare l)
            ((set_pages_lem g u full reclaimed ((spare - 1 - j) * g.pages) (omega (arith, A.entries_least))).size_else r
            (λ z. apart g A cap cap-most r mine t F o index e (sym z)))
        go (no l) = rw (le-ltb j spare (omega arith)) ((set_taken_lem g u full (b + 1)).size_is r)

    placed_size : size_of g (placed g index r s j u) r ≡ size_of g u r
    placed_size =
        let b = next_block g index s j in
        let f = drawn_full g A cap cap-most r mine t F o index e j u full b in
        let l = next_below g A cap cap-most r mine t F o index e j h in
        (set_entry_lem g (drawn g s j b u) f b r (need_of g t r + j) l).size_is r ∙ drawn_size b

  fills : (j : ℕ) → j ≤ room → length (there j) ≡ front_bytes g
  fills = there_full g A cap cap-most r mine t F o index e

  there_size : (j : ℕ) → j ≤ room → size_of g (there j) r ≡ size_of g t r
  unfolding steps
  there_size zero h = refl
  there_size (suc j) h = placed_size j h (there j) (fills j (omega arith)) ∙ there_size j (omega arith)

  -- ---- all else is as the paper's grants leave it
  module _ (j : ℕ) (h : j ≤ room) where
    G : Grown g cap t reclaimed r j (after j)
    G = grown g A cap cap-most r mine t F o index e j h

    same : set_pages g r 0 (there j) ≡ set_pages g r 0 (after j)
    same = placed_all g A cap cap-most r mine t F o index e j h 0

    X : SizeSet g (after j) r (set_pages g r 0 (after j))
    X = set_pages_lem g (after j) G.formed.full r 0 inside

    Y : SizeSet g (there j) r (set_pages g r 0 (there j))
    Y = set_pages_lem g (there j) (fills j h) r 0 inside

    there_taken : taken g (there j) ≡ taken g (after j)
    there_taken = sym Y.taken_is ∙ ap (taken g) same ∙ X.taken_is

    there_else : (q : ℕ) → q ≢ r → need_of g (there j) q ≡ need_of g (after j) q
    there_else q ne = need_same g (after j) (there j) q (sym (Y.size_else q ne) ∙ ap (λ u. size_of g u q) same ∙ X.size_else q ne)

    pub lags : sum_below g.entries (need_of g (steps j (placed g index r (stock_of g t r)) t)) + j ≡ taken g (steps j (placed g index r (stock_of g t r)) t)
    lags =
        omega (
          arith,
          sum_bump g.entries (need_of g (there j)) (need_of g (after j)) r inside (λ q l ne. there_else q ne),
          G.formed.rules.total,
          G.mine,
          need_same g t (there j) r (there_size j h),
          there_taken,
        )

    -- ---- so that rule c does not hold
    pub stopped : 0 < j → (image lent : List ℕ) → taken g (front g image) ≡ taken g (steps j (placed g index r (stock_of g t r)) t)
        → ((q : ℕ) → size_of g (front g image) q ≡ size_of g (steps j (placed g index r (stock_of g t r)) t) q) → refusal g image lent recover ≢ 0
    stopped pos image lent n sizes z =
        let v = front g image in
        let total = (recover_accepted g image lent z).1.total in
        let needs = sum_ext g.entries (need_of g v) (need_of g (there j)) (λ q l. need_same g (there j) v q (sizes q)) in
        omega (arith, total, needs, n, lags)
