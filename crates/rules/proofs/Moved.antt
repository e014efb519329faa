-- The front that a move leaves keeps the rules: region 0 has the pages, in k blocks of which the last stands first, and every other region is as laid.
use Prim.Native.Nat.{ℕ, ◌+◌, ◌-◌, ◌≤◌, ◌<◌}
use mathlib.Core.Bool.{true, cond}
use mathlib.Core.Logic.{◌≢◌}
use mathlib.Core.Path.{◌≡◌, refl, sym, ◌∙◌}
use mathlib.Core.List.{List}
use native.Mathlib.Omega.{arith}
use native.Mathlib.Nat.{mul-le-mul_right, zero-mul}
use native.Mathlib.Decide.{ℕ_discrete, dec_lt}
use borrow.Author.Tests.{ne_eqb, lt-ltb, le-ltb}
use lib.Dec.{eqb}
use lib.ListN.{take, length}
use Rattle.laws.specs.Folds.{join_below}
use Rattle.laws.specs.Bytes.{splice}
use Rattle.laws.proofs.Folds.{sum_bump}
use Rattle.laws.proofs.Lists.{join_ext}
use Rattle.paper.specs.declared.Geometry.{Geometry}
use Rattle.paper.specs.declared.Version.{Version}
use Rattle.paper.specs.Geometry.{header_bytes, fixed_regions, anonymous, reclaimed, block_bytes, Allowed, no_region, most_book_pages, need, size_at, front_bytes, data_at}
use Rattle.paper.specs.Image.{holds, version_of, taken, counter, owner, place, size_of, pages_of, edition_of, is_open, need_of, block_of, written_header, entry_row, size_row, written}
use Rattle.paper.specs.Calls.{version_number, laid_size, laid}
use Rattle.paper.specs.Move.{moved_place, moved_owner, moved_size, moved_front, moved_data}
use Rattle.paper.proofs.Arithmetic.{book_pages_bound, need_enough, need_zero}
use Rattle.rules.specs.Facts.{Rules, Header, Formed, fronted}
use Rattle.rules.proofs.Cells.{Codable}
use Rattle.rules.proofs.Written.{length-written, written_joined, version_written, stamp_written, taken_written, counter_written, owner_written, place_written, size_written, edition_written}
use Rattle.rules.proofs.Facts.{open_below, none_released, is_open_lem, is_past, need_open, need_same, needs_open, open_same}
use Rattle.rules.proofs.Counting.{block_at}
use Rattle.rules.proofs.Laid.{laid_size-fixed, laid_codable, laid_taken, laid_counter, laid_size_lem, laid_open, laid_need, laid_rules, version_small, version_either}

-- ---- the position of a block, and the block of a position
module _ (k : ℕ) where
  pub place_next : (b : ℕ) → b + 1 < k → moved_place k b ≡ b + 1
  place_next b h = rw (lt-ltb (b + 1) k h)

  pub place_last : (b : ℕ) → k ≤ b + 1 → moved_place k b ≡ 0
  place_last b h = rw (le-ltb (b + 1) k h)

  place_below : (b : ℕ) → b < k → moved_place k b < k
  place_below b h = go (dec_lt (b + 1) k)
    where
      go : Dec (b + 1 < k) → moved_place k b < k
      go (yes l) = rw (place_next b l) l
      go (no l) = rw (place_last b (omega arith)) (omega arith)

  place_once : (a b : ℕ) → a < k → b < k → moved_place k a ≡ moved_place k b → a ≡ b
  place_once a b h l e = go (dec_lt (a + 1) k) (dec_lt (b + 1) k)
    where
      go : Dec (a + 1 < k) → Dec (b + 1 < k) → a ≡ b
      go (yes c) (yes d) = omega (arith, e, place_next a c, place_next b d)
      go (yes c) (no d) = absurd (omega (arith, e, place_next a c, place_last b (omega arith)))
      go (no c) (yes d) = absurd (omega (arith, e, place_last a (omega arith), place_next b d))
      go (no c) (no d) = omega arith

-- both have room in two bytes
pub owner_small : (g : Geometry) → Allowed g → (k b : ℕ) → moved_owner g k b < 65536
owner_small g A k b = go (dec_lt b k)
  where
    go : Dec (b < k) → moved_owner g k b < 65536
    go (yes h) = rw (lt-ltb b k h) (omega arith)
    go (no h) = rw (le-ltb b k (omega arith)) (omega (arith, A.entries_most))

pub place_small : (k b : ℕ) → k < 65536 → moved_place k b < 65536
place_small k b h = go (dec_lt (b + 1) k)
  where
    go : Dec (b + 1 < k) → moved_place k b < 65536
    go (yes l) = rw (place_next k b l) (omega arith)
    go (no l) = rw (place_last k b (omega arith)) (omega arith)

-- blocks, then regions, then the header, with k for the need
pub moved_joined : (g : Geometry) (v : Version) (n k : ℕ) (xs : List ℕ) → k ≡ need g n → front_bytes g ≤ length xs
    → splice 0 (written_header (version_number v) k fixed_regions)
    (splice (size_at g 0) (join_below g.entries (size_row (version_number v) (moved_size n)))
    (splice header_bytes (join_below g.blocks (entry_row (moved_owner g k) (moved_place k))) xs))
    ≡ fronted g (moved_front g v n) xs
unfolding moved_front
moved_joined g v n k xs e fits =
    rw e (written_joined g (version_number v) (need g n) fixed_regions (moved_owner g (need g n)) (moved_place (need g n)) (moved_size n) xs fits)

-- no pages need no blocks, and no others
pub none_needed : (g : Geometry) → Allowed g → (n : ℕ) → need g n ≡ 0 → n ≡ 0
none_needed g A n e =
    let h : n ≤ 0 = rw (e, zero-mul g.pages) at (need_enough g A.pages_least n) in
    omega arith

module _ (g : Geometry) (A : Allowed g) (v : Version) (n : ℕ) (most : need g n ≤ g.blocks) where
  abbrev k : ℕ
  k = need g n

  abbrev u : List ℕ
  u = moved_front g v n

  pub moved_fits : n ≤ most_book_pages g
  moved_fits = omega (arith, need_enough g A.pages_least n, mul-le-mul_right g.pages most)

  -- ---- what it says
  size_here : moved_size n anonymous ≡ holds n
  unfolding moved_size
  size_here = refl

  pub size_else : (r : ℕ) → r ≢ anonymous → moved_size n r ≡ laid_size r
  unfolding moved_size
  size_else r ne = rw (ne_eqb r anonymous ne)

  pub moved_codable : (r : ℕ) → Codable (moved_size n r)
  moved_codable r = go (ℕ_discrete r anonymous)
    where
      go : Dec (r ≡ anonymous) → Codable (moved_size n r)
      go (yes e) = rw (e, size_here) (omega (arith, moved_fits, book_pages_bound g A))
      go (no ne) = rw (size_else r ne) (laid_codable r)

  pub moved_full : length (moved_front g v n) ≡ front_bytes g
  unfolding moved_front
  moved_full = length-written g (version_number v) k fixed_regions (moved_owner g k) (moved_place k) (moved_size n)

  pub moved_taken : taken g (moved_front g v n) ≡ need g n
  unfolding moved_front
  moved_taken = taken_written g (version_number v) k fixed_regions (moved_owner g k) (moved_place k) (moved_size n) (omega (arith, A.blocks_most))

  moved_counter : counter g u ≡ fixed_regions
  unfolding moved_front
  moved_counter = counter_written g (version_number v) k fixed_regions (moved_owner g k) (moved_place k) (moved_size n) (omega arith)

  moved_header : Header g u
  unfolding moved_front
  moved_header = record {
    stamp = stamp_written g (version_number v) k fixed_regions (moved_owner g k) (moved_place k) (moved_size n) (version_either v);
    taken_most = omega (arith, moved_taken, most);
    counter_least = omega (arith, moved_counter);
    counter_most = omega (arith, moved_counter, A.entries_least);
  }

  owner_below : (b : ℕ) → b < k → owner g u b ≡ anonymous
  unfolding moved_front
  owner_below b h =
      let e : moved_owner g k b ≡ anonymous = rw (lt-ltb b k h) in
      owner_written g (version_number v) k fixed_regions (moved_owner g k) (moved_place k) (moved_size n) b (omega arith) (omega (arith, e)) ∙ e

  owner_above : (b : ℕ) → k ≤ b → b < g.blocks → owner g u b ≡ no_region g
  unfolding moved_front
  owner_above b h l =
      let e : moved_owner g k b ≡ no_region g = rw (le-ltb b k h) in
      owner_written g (version_number v) k fixed_regions (moved_owner g k) (moved_place k) (moved_size n) b l (omega (arith, e, A.entries_most)) ∙ e

  place_is : (b : ℕ) → b < g.blocks → moved_place k b < 65536 → place g u b ≡ moved_place k b
  unfolding moved_front
  place_is b h l = place_written g (version_number v) k fixed_regions (moved_owner g k) (moved_place k) (moved_size n) b h l

  place_taken : (b : ℕ) → b < k → place g u b ≡ moved_place k b
  place_taken b h = place_is b (omega arith) (omega (arith, place_below k b h, A.blocks_most))

  size_is : (r : ℕ) → r < g.entries → size_of g u r ≡ moved_size n r
  unfolding moved_front
  size_is r h = size_written g (version_number v) k fixed_regions (moved_owner g k) (moved_place k) (moved_size n) r h (version_small v) (moved_codable r)

  pub moved_version : version_of g (moved_front g v n) ≡ version_number v
  unfolding moved_front
  moved_version = version_written g (version_number v) k fixed_regions (moved_owner g k) (moved_place k) (moved_size n) (version_small v)

  pub moved_edition : (r : ℕ) → r < g.entries → edition_of g (moved_front g v n) r ≡ 0
  unfolding moved_front
  moved_edition r h = edition_written g (version_number v) k fixed_regions (moved_owner g k) (moved_place k) (moved_size n) r h (version_small v)

  zero_below : anonymous < g.entries
  zero_below = omega (arith, A.entries_least)

  pub moved_size_lem : size_of g (moved_front g v n) anonymous ≡ holds n
  moved_size_lem = size_is anonymous zero_below ∙ size_here

  -- every other region is as laid
  pub moved_sizes : (r : ℕ) → r ≢ anonymous → r < g.entries → size_of g (moved_front g v n) r ≡ size_of g (laid g v) r
  moved_sizes r ne h = size_is r h ∙ size_else r ne ∙ sym (laid_size_lem g A v r h)

  open_0 : is_open g u anonymous ≡ true
  open_0 = is_open_lem g u anonymous zero_below n moved_size_lem

  pub moved_opens : (r : ℕ) → is_open g (moved_front g v n) r ≡ is_open g (laid g v) r
  moved_opens r = go (dec_lt r g.entries) (ℕ_discrete r anonymous)
    where
      go : Dec (r < g.entries) → Dec (r ≡ anonymous) → is_open g (moved_front g v n) r ≡ is_open g (laid g v) r
      go (no h) _ = is_past g u r (omega arith) ∙ sym (is_past g (laid g v) r (omega arith))
      go (yes h) (yes d) = rw d (open_0 ∙ sym (laid_open g A v anonymous (omega arith)))
      go (yes h) (no d) = open_same g (laid g v) u r (moved_sizes r d h)

  need_0 : need_of g u anonymous ≡ k
  need_0 = need_open g u anonymous open_0 ∙ rw moved_size_lem

  -- ---- the rules
  moved_named : (b : ℕ) → b < taken g u → place g u b < need_of g u (owner g u b)
  moved_named b h = let l : b < k = omega (arith, moved_taken) in rw (owner_below b l, place_taken b l, need_0) (place_below k b l)

  T : Rules g (laid g v)
  T = laid_rules g A v

  pub moved_rules : Rules g (moved_front g v n)
  moved_rules = record {
    low = λ r h. moved_opens r ∙ T.low r h;
    high = λ r lo hi. moved_opens r ∙ T.high r (omega (arith, moved_counter, laid_counter g A v)) hi;
    editions = none_released g (u) (omega (arith, A.entries_least)) moved_edition;
    fits = λ r e. fit r e (ℕ_discrete r anonymous);
    whole = rw (moved_sizes reclaimed (omega arith) (omega (arith, A.entries_least))) T.whole;
    total =
        omega (
          arith,
          moved_taken,
          need_0,
          laid_need g A v anonymous,
          T.total,
          laid_taken g A v,
          sum_bump g.entries (need_of g u) (need_of g (laid g v)) anonymous zero_below (λ r h ne. need_same g (laid g v) u r (moved_sizes r ne h)),
        );
    owned = λ b h. needs_open g u (owner g u b) (place g u b) (moved_named b h);
    named = moved_named;
    once = λ a b h l e d.
        let h' : a < k = omega (arith, moved_taken) in
        let l' : b < k = omega (arith, moved_taken) in
        place_once k a b h' l' (sym (place_taken a h') ∙ d ∙ place_taken b l');
    blank = λ b lo hi.
        let m : k ≤ b = omega (arith, moved_taken) in
        let z = place_last k b (omega arith) in
        (owner_above b m hi, place_is b hi (omega (arith, z)) ∙ z);
  }
    where
      fit : (r : ℕ) → is_open g u r ≡ true → Dec (r ≡ anonymous) → pages_of g u r ≤ most_book_pages g
      fit r e (yes d) = rw (d, moved_size_lem) moved_fits
      fit r e (no d) = rw (moved_sizes r d (open_below g u r e)) (T.fits r (sym (moved_opens r) ∙ e))

  pub moved_formed : (cap : ℕ) → need g n ≤ cap → Formed g cap (moved_front g v n)
  moved_formed cap room = record { full = moved_full; header = moved_header; tail = omega (arith, moved_taken); rules = moved_rules }

  -- ---- block k-1 stands at position 0, and block p-1 at position p
  block_placed : (b : ℕ) → b < k → block_of g u anonymous (moved_place k b) ≡ b
  block_placed b h = rw (owner_below b h, place_taken b h) at (block_at g u moved_rules b (omega (arith, moved_taken)))

  pub moved_first : need g n ≢ 0 → block_of g (moved_front g v n) anonymous 0 ≡ need g n - 1
  moved_first ne = rw (place_last k (k - 1) (omega arith)) at (block_placed (k - 1) (omega arith))

  pub moved_next : (p : ℕ) → p ≢ 0 → p < need g n → block_of g (moved_front g v n) anonymous p ≡ p - 1
  moved_next p ne h =
      let e : p - 1 + 1 ≡ p = omega arith in
      rw (place_next k (p - 1) (omega arith), e) at (block_placed (p - 1) (omega arith))

-- ---- with no pages it is a laid front
none_size : (r : ℕ) → moved_size 0 r ≡ laid_size r
unfolding moved_size
none_size r = go (ℕ_discrete r anonymous)
  where
    go : Dec (r ≡ anonymous) → cond (eqb r anonymous) (holds 0) (laid_size r) ≡ laid_size r
    go (yes e) = rw e (sym (laid_size-fixed anonymous (omega arith)))
    go (no ne) = rw (ne_eqb r anonymous ne)

none_entry : (g : Geometry) (b : ℕ) → entry_row (moved_owner g 0) (moved_place 0) b ≡ entry_row (λ b. no_region g) (λ b. 0) b
unfolding entry_row
none_entry g b = rw (le-ltb b 0 (omega arith), le-ltb (b + 1) 0 (omega arith))

none_row : (v r : ℕ) → size_row v (moved_size 0) r ≡ size_row v laid_size r
unfolding size_row
none_row v r = rw (none_size r)

pub moved_none : (g : Geometry) → Allowed g → (v : Version) → moved_front g v 0 ≡ laid g v
unfolding moved_front laid written
moved_none g A v =
    let z : need g 0 ≡ 0 = need_zero g A.pages_least in
    let entries = join_ext g.blocks (entry_row (moved_owner g 0) (moved_place 0)) (entry_row (λ b. no_region g) (λ b. 0)) (λ b h. none_entry g b) in
    let sizes = join_ext g.entries (size_row (version_number v) (moved_size 0)) (size_row (version_number v) laid_size) (λ r h. none_row (version_number v) r) in
    rw (z, entries, sizes)

-- ---- the first block copied, or nothing
pub data_none : (g : Geometry) (n : ℕ) (image : List ℕ) → need g n ≡ 0 → moved_data g n image ≡ image
unfolding moved_data
data_none g n image e = rw e

pub data_some : (g : Geometry) (n : ℕ) (image : List ℕ) → need g n ≢ 0 → moved_data g n image ≡ splice (data_at g (need g n - 1)) (take (block_bytes g) image) image
unfolding moved_data
data_some g n image ne = rw (ne_eqb (need g n) 0 ne)
