-- The rules' sentences, as the passes over the tables ask them.
use Prim.Native.Nat.{ℕ, ◌+◌, ◌-◌, ◌*◌, ◌≤◌, ◌<◌}
use mathlib.Core.Bool.{Bool, true, false}
use mathlib.Core.Path.{◌≡◌, refl, sym, ◌∙◌, ap}
use mathlib.Core.List.{List}
use native.Mathlib.Omega.{arith}
use native.Mathlib.Nat.{mul-le-mul_right, add-mul, one-mul}
use native.Mathlib.Decide.{dec_lt}
use borrow.Author.Tests.{eqb-true, eqb-false, eq-eqb, ne_eqb, le-leb, lt-ltb, le-ltb}
use lib.Dec.{eqb, leb, ltb}
use Rattle.laws.specs.Folds.{all_below, sum_below}
use Rattle.laws.proofs.Folds.{all_below_lem, below_all, sum_more, sum_mono, sum_flat}
use Rattle.paper.specs.declared.Geometry.{Geometry}
use Rattle.paper.specs.Geometry.{need, most_book_pages}
use Rattle.paper.specs.Image.{Size, not_open, holds, taken, owner, place, size_of, pages_of, is_open, need_of}
use Rattle.paper.specs.WellFormed.{fits, rule_c, named}
use Rattle.paper.proofs.Arithmetic.{need_enough, need_least, need_zero, need_below}
use Rattle.paper.specs.Index.{start_of}
use Rattle.rules.specs.Given.{High, given}
use Rattle.rules.proofs.Facts.{is_open_lem, is_not_open, is_past, need_open, need_not_open}

module _ (g : Geometry) (t : List ℕ) where
  -- a region that is not open has no pages, and fits
  pub fits_read : (r : ℕ) → r < g.entries → fits g t r ≡ leb (pages_of g t r) (most_book_pages g)
  fits_read r h = go (size_of g t r) refl
    where
      go : (s : Size) → size_of g t r ≡ s → fits g t r ≡ leb (pages_of g t r) (most_book_pages g)
      go not_open e = rw (is_not_open g t r e, e) (sym (le-leb 0 (most_book_pages g) (omega arith)))
      go (holds n) e = rw (is_open_lem g t r h n e)

  -- one that is not open needs no block
  pub named_below : (b : ℕ) → ltb (place g t b) (need_of g t (owner g t b)) ≡ named g t b
  named_below b = go (is_open g t (owner g t b)) refl
    where
      go : (q : Bool) → is_open g t (owner g t b) ≡ q → ltb (place g t b) (need_of g t (owner g t b)) ≡ named g t b
      go true e = rw e
      go false e = rw (need_not_open g t (owner g t b) e, e) (le-ltb (place g t b) 0 (omega arith))

  -- nor is one past the table open
  pub named_past : (b : ℕ) → g.entries ≤ owner g t b → named g t b ≡ false
  named_past b h = rw (is_past g t (owner g t b) h)

  module _ (pos : 1 ≤ g.pages) where
    -- ---- needs, with nothing divided
    pub need_read : (r : ℕ) → r < g.entries → need g (pages_of g t r) ≡ need_of g t r
    need_read r h = go (size_of g t r) refl
      where
        go : (s : Size) → size_of g t r ≡ s → need g (pages_of g t r) ≡ need_of g t r
        go not_open e = rw e (need_zero g pos ∙ sym (need_not_open g t r (is_not_open g t r e)))
        go (holds n) e = sym (need_open g t r (is_open_lem g t r h n e))

    -- k blocks are what n pages need where they hold them, and one less would not
    need_is : (n k : ℕ) → n ≤ k * g.pages → k * g.pages - n < g.pages → need g n ≡ k
    need_is n k lo hi = go (dec_lt (need g n) k)
      where
        go : Dec (need g n < k) → need g n ≡ k
        go (yes l) =
            absurd (omega (arith, need_enough g pos n, mul-le-mul_right {m = need g n + 1} {n = k} g.pages (omega arith), add-mul (need g n) 1 g.pages, one-mul g.pages))
        go (no l) = omega (arith, need_below g pos n k lo)

    module _ (r : ℕ) (h : r < g.entries) (k : ℕ) where
      -- the pages of k blocks, if these are what the book needs
      needed : need_of g t r ≡ k → need g (pages_of g t r) * g.pages ≡ k * g.pages
      needed e = ap (λ (n : ℕ). n * g.pages) (need_read r h ∙ e)

      pub need_short : k * g.pages < pages_of g t r → eqb (need_of g t r) k ≡ false
      need_short l = ne_eqb (need_of g t r) k (λ e. absurd (omega (arith, need_enough g pos (pages_of g t r), needed e)))

      pub need_held : pages_of g t r ≤ k * g.pages → ltb (k * g.pages - pages_of g t r) g.pages ≡ eqb (need_of g t r) k
      need_held l = go (dec_lt (k * g.pages - pages_of g t r) g.pages)
        where
          go : Dec (k * g.pages - pages_of g t r < g.pages) → ltb (k * g.pages - pages_of g t r) g.pages ≡ eqb (need_of g t r) k
          go (yes m) = lt-ltb _ _ m ∙ sym (eq-eqb (need_of g t r) k (sym (need_read r h) ∙ need_is (pages_of g t r) k l m))
          go (no m) =
              le-ltb (k * g.pages - pages_of g t r) g.pages (omega arith)
              ∙ sym (ne_eqb (need_of g t r) k (λ e. absurd (omega (arith, need_least g pos (pages_of g t r), needed e))))

    -- a position lies below the need where the blocks before it do not hold all the pages
    below_need : (p n : ℕ) → ltb (p * g.pages) n ≡ ltb p (need g n)
    below_need p n = go (dec_lt (p * g.pages) n) (dec_lt p (need g n))
      where
        go : Dec (p * g.pages < n) → Dec (p < need g n) → ltb (p * g.pages) n ≡ ltb p (need g n)
        go (yes h) (yes l) = lt-ltb _ _ h ∙ sym (lt-ltb _ _ l)
        go (yes h) (no l) = absurd (omega (arith, need_enough g pos n, mul-le-mul_right {m = need g n} {n = p} g.pages (omega arith)))
        go (no h) l = le-ltb (p * g.pages) n (omega arith) ∙ sym (le-ltb p (need g n) (need_below g pos n p (omega arith)))

    pub named_read : (b : ℕ) → owner g t b < g.entries → ltb (place g t b * g.pages) (pages_of g t (owner g t b)) ≡ named g t b
    named_read b h = below_need (place g t b) (pages_of g t (owner g t b)) ∙ ap (ltb (place g t b)) (need_read (owner g t b) h) ∙ named_below b

  -- ---- where no region from C on is open, only those below C count
  module _ (high : High g t) where
    pub given_open : (r : ℕ) → given g t ≤ r → is_open g t r ≡ false
    given_open r h = go (dec_lt r g.entries)
      where
        go : Dec (r < g.entries) → is_open g t r ≡ false
        go (yes l) = high r (omega arith) l
        go (no l) = is_past g t r (omega arith)

    pub start_given : (r : ℕ) → given g t ≤ r → start_of g t r ≡ start_of g t (given g t)
    start_given r h = sum_flat (need_of g t) (given g t) r h (λ q lo hi. need_not_open g t q (given_open q lo))

    pub fits_given : all_below (given g t) (fits g t) ≡ true → all_below g.entries (fits g t) ≡ true
    fits_given e = below_all g.entries (fits g t) (λ r l. go r (dec_lt r (given g t)))
      where
        go : (r : ℕ) → Dec (r < given g t) → fits g t r ≡ true
        go r (yes l) = all_below_lem (given g t) (fits g t) e r l
        go r (no l) = rw (given_open r (omega arith))

  -- ---- rule c, where `left` is what the regions below r leave of N
  module _ (left : ℕ) where
    pub rule_c-short : (r : ℕ) → r < g.entries → left + sum_below r (need_of g t) ≡ taken g t → left < need_of g t r → rule_c g t ≡ false
    unfolding rule_c
    rule_c-short r h i l =
        ne_eqb (sum_below g.entries (need_of g t)) (taken g t)
        (λ e. omega (arith, sum_mono (need_of g t) (r + 1) g.entries (omega arith), sum_more r (need_of g t)))

    pub rule_c_end : left + sum_below g.entries (need_of g t) ≡ taken g t → eqb left 0 ≡ rule_c g t
    unfolding rule_c
    rule_c_end i = go (eqb left 0) refl
      where
        go : (q : Bool) → eqb left 0 ≡ q → q ≡ eqb (sum_below g.entries (need_of g t)) (taken g t)
        go true e = sym (eq-eqb (sum_below g.entries (need_of g t)) (taken g t) (omega (arith, eqb-true left 0 e)))
        go false e = sym (ne_eqb (sum_below g.entries (need_of g t)) (taken g t) (λ d. eqb-false left 0 e (omega arith)))
