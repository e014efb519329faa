-- The grants, with the book's page count written once and last, leave what the paper tells, which writes it at each.
use Prim.Native.Nat.{ℕ, zero, suc, ◌+◌, ◌-◌, ◌*◌, ◌≤◌, ◌<◌}
use mathlib.Core.Bool.{true, cond}
use mathlib.Core.Path.{◌≡◌, refl, sym, ◌∙◌, ap}
use mathlib.Core.List.{List}
use native.Mathlib.Omega.{arith}
use native.Mathlib.Decide.{dec_lt}
use borrow.Author.Tests.{eq-eqb, ne_eqb, lt-ltb, le-ltb}
use lib.Dec.{eqb}
use lib.ListN.{length}
use Rattle.laws.specs.Folds.{steps}
use Rattle.paper.specs.declared.Geometry.{Geometry}
use Rattle.paper.specs.Geometry.{reclaimed, Allowed, front_bytes}
use Rattle.paper.specs.Image.{taken, is_open, need_of, set_entry, set_pages}
use Rattle.paper.specs.Index.{index_of}
use Rattle.paper.specs.Calls.{moved, granted_new, granted}
use Rattle.paper.specs.Refusals.{callable}
use Rattle.rules.specs.Facts.{Formed}
use Rattle.rules.proofs.Cells.{pages_again, pages_taken, pages_entry, pages_pages}
use Rattle.rules.proofs.Facts.{open_below}
use Rattle.keeping.proofs.Writes.{set_taken_lem, set_entry_lem, set_pages_lem}
use Rattle.keeping.proofs.Grant.{Grown}
use Rattle.tables.specs.declared.Stock.{Stock}
use Rattle.tables.specs.Grant.{stock_of, next_block, drawn, placed}
use Rattle.tables.proofs.Spare.{apart, grown, spare_read, next_below}

module _ (g : Geometry) (A : Allowed g) (cap : ℕ) (cap-most : cap ≤ g.blocks) (r : ℕ) (mine : callable r ≡ true) (t : List ℕ) (F : Formed g cap t)
    (o : is_open g t r ≡ true) (index : List ℕ) (e : index ≡ index_of g t) where
  abbrev after : ℕ → List ℕ
  after j = steps j (λ k u. granted g r u) t

  abbrev spare : ℕ
  spare = need_of g t reclaimed

  abbrev room : ℕ
  room = spare + (cap - taken g t)

  abbrev s : Stock
  s = stock_of g t r

  -- the front after j grants, as the code makes them
  abbrev there : ℕ → List ℕ
  there j = steps j (placed g index r s) t

  inside : r < g.entries
  inside = open_below g t r o

  one_below : reclaimed < g.entries
  one_below = omega (arith, A.entries_least)

  below : (j : ℕ) → j < room → next_block g index s j < g.blocks
  below = next_below g A cap cap-most r mine t F o index e

  G : (j : ℕ) → j ≤ room → Grown g cap t reclaimed r j (after j)
  G = grown g A cap cap-most r mine t F o index e

  -- ---- a step goes by what was found before, and never by the page count
  module _ (j : ℕ) (u : List ℕ) (full : length u ≡ front_bytes g) (b : ℕ) where
    pub drawn_full : length (drawn g (stock_of g t r) j b u) ≡ front_bytes g
    drawn_full = go (dec_lt j spare)
      where
        go : Dec (j < spare) → length (drawn g s j b u) ≡ front_bytes g
        go (yes l) = rw (lt-ltb j spare l) (set_pages_lem g u full reclaimed ((spare - 1 - j) * g.pages) one_below).full
        go (no l) = rw (le-ltb j spare (omega arith)) (set_taken_lem g u full (b + 1)).full

    drawn_pages : (n : ℕ) → set_pages g r n (drawn g s j b u) ≡ drawn g s j b (set_pages g r n u)
    drawn_pages n = go (dec_lt j spare)
      where
        go : Dec (j < spare) → set_pages g r n (drawn g s j b u) ≡ drawn g s j b (set_pages g r n u)
        go (yes l) =
            rw (lt-ltb j spare l)
            (pages_pages g u (omega arith) r n inside reclaimed ((spare - 1 - j) * g.pages) one_below
            (λ z. apart g A cap cap-most r mine t F o index e (sym z)))
        go (no l) = rw (le-ltb j spare (omega arith)) (pages_taken g u (omega arith) r n inside (b + 1))

  module _ (j : ℕ) (h : j < room) (u : List ℕ) (full : length u ≡ front_bytes g) where
    abbrev next : ℕ
    next = next_block g index s j

    placed_full : length (placed g index r s j u) ≡ front_bytes g
    placed_full = (set_entry_lem g (drawn g s j next u) (drawn_full j u full next) next r (need_of g t r + j) (below j h)).full

    placed_pages : (n : ℕ) → set_pages g r n (placed g index r s j u) ≡ placed g index r s j (set_pages g r n u)
    placed_pages n =
        pages_entry g (drawn g s j next u) (omega (arith, drawn_full j u full next)) r n inside next r (need_of g t r + j) (below j h)
        ∙ ap (set_entry g next r (need_of g t r + j)) (drawn_pages j u full next n)

  pub there_full : (j : ℕ) → j ≤ need_of g t reclaimed + (cap - taken g t) → length (steps j (placed g index r (stock_of g t r)) t) ≡ front_bytes g
  unfolding steps
  there_full zero h = F.full
  there_full (suc j) h = placed_full j h (there j) (there_full j (omega arith))

  -- ---- the paper's step is this one and the page count
  granted_placed : (j : ℕ) → j < room → granted g r (after j) ≡ set_pages g r ((need_of g t r + j + 1) * g.pages) (placed g index r s j (after j))
  unfolding granted granted_new moved
  granted_placed j h = go (dec_lt j spare)
    where
      H : Grown g cap t reclaimed r j (after j)
      H = G j (omega arith)

      x : List ℕ
      x = after j

      go : Dec (j < spare)
          → cond (eqb (need_of g x reclaimed) 0) (granted_new g r x) (moved g reclaimed r x) ≡ set_pages g r ((need_of g t r + j + 1) * g.pages) (placed g index r s j x)
      go (yes l) =
          let k : need_of g x reclaimed - 1 ≡ spare - 1 - j = omega (arith, H.left) in
          rw (ne_eqb (need_of g x reclaimed) 0 (λ z. omega (arith, H.left)), lt-ltb j spare l, k, H.mine, spare_read g A cap cap-most r mine t F o index e j l (omega arith))
      go (no l) = rw (eq-eqb (need_of g x reclaimed) 0 (omega (arith, H.left)), le-ltb j spare (omega arith), H.count, H.mine)

  pub placed_all : (j : ℕ) → j ≤ need_of g t reclaimed + (cap - taken g t) → (n : ℕ)
      → set_pages g r n (steps j (placed g index r (stock_of g t r)) t) ≡ set_pages g r n (steps j (λ k u. granted g r u) t)
  unfolding steps
  placed_all zero h n = refl
  placed_all (suc j) h n =
      let f = (G j (omega arith)).formed.full in
      placed_pages j h (there j) (there_full j (omega arith)) n
      ∙ ap (placed g index r s j) (placed_all j (omega arith) n)
      ∙ sym (placed_pages j h (after j) f n)
      ∙ sym (pages_again g (placed g index r s j (after j)) (omega (arith, placed_full j h (after j) f)) r n inside ((need_of g t r + j + 1) * g.pages))
      ∙ ap (set_pages g r n) (sym (granted_placed j h))
