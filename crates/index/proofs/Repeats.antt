-- The search for two blocks in one slot: the marks of a pass, the windows joined, and that one slot is one pair.
use Prim.Native.Nat.{ℕ, ◌+◌, ◌-◌, ◌*◌, ◌/◌, ◌%◌, ◌≤◌, ◌<◌, min}
use mathlib.Core.Bool.{Bool, true, false, not, ◌&&◌, ◌||◌}
use mathlib.Core.Logic.{◌≢◌}
use mathlib.Core.Path.{◌≡◌, refl, sym, ◌∙◌, ap}
use mathlib.Core.List.{List}
use native.Mathlib.Omega.{arith}
use native.Mathlib.Numerals.{add-one}
use native.Mathlib.Decide.{ℕ_discrete, dec_lt}
use borrow.Author.Tests.{eqb-true, eq-eqb, ne_eqb, ltb-true, lt-ltb, le-ltb, leb-true, le-leb, lt-leb}
use lib.Dec.{eqb, leb, ltb}
use lib.ListN.{get_or, set, length}
use lib.Seq.{get_or-set_same, get_or-set_other}
use Rattle.laws.specs.Folds.{all_below}
use Rattle.laws.proofs.Tests.{clash, and_parts, and_true, and_false_left, and_false_right}
use Rattle.laws.proofs.Folds.{all_none, all_below_lem, below_all, all_ext, sum_mono, sum_gap}
use Rattle.paper.specs.declared.Geometry.{Geometry}
use Rattle.paper.specs.Image.{taken, owner, place, names, need_of}
use Rattle.paper.specs.WellFormed.{alone}
use Rattle.paper.specs.Index.{start_of}
use Rattle.rules.proofs.Counting.{slots_apart}
use Rattle.rules.specs.Facts.{slot_for}
use Rattle.index.specs.Slotted.{Slotted}
use Rattle.index.specs.declared.Window.{Window}
use Rattle.index.specs.Repeats.{regions_at_once, slots_at_once, mark_bytes, digit, byte_of, within, unseen, marked, free, apart, StartsFrom, slot_by, in_window, Framed, Run}
use Rattle.index.proofs.Slots.{owner_below, slot_below}
use Rattle.index.proofs.Marks.{clear, clear_zero, unseen_none, unseen_one, clear_none, clear_here, clear_else}

-- ---- a slot in a window, or outside
module _ (from to s : ℕ) where
  pub is_before : s < from → within from to s ≡ false
  is_before h = and_false_left (ltb s to) (lt-leb from s h)

  pub is_after : to ≤ s → within from to s ≡ false
  is_after h = and_false_right (leb from s) (le-ltb s to h)

  pub is_within : from ≤ s → s < to → within from to s ≡ true
  is_within lo hi = and_true (le-leb from s lo) (lt-ltb s to hi)

  pub within_facts : within from to s ≡ true → (from ≤ s) × (s < to)
  within_facts e = let p = and_parts (leb from s) (ltb s to) e in (leb-true from s p.0, ltb-true s to p.1)

module _ (g : Geometry) (t : List ℕ) where
  -- the starts of some regions, read one after the other
  pub starts_more : (first r x : ℕ) (starts : List ℕ) → first ≤ r → r - first < length starts → x ≡ start_of g t r
      → StartsFrom g t first r starts → StartsFrom g t first (r + 1) (set starts (r - first) x)
  starts_more first r x starts lo room e old q l h = go (ℕ_discrete q r)
    where
      go : Dec (q ≡ r) → get_or (set starts (r - first) x) (q - first) 0 ≡ start_of g t q
      go (yes d) = rw d (get_or-set_same starts (r - first) x 0 room ∙ e)
      go (no d) = get_or-set_other starts (r - first) (q - first) x 0 (λ z. omega arith) ∙ old q l (omega arith)

  -- ---- one block more
  free_hit : (b s : ℕ) → slot_for g t b ≡ s → free g t (b + 1) s ≡ false
  unfolding free all_below
  free_hit b s e = rw (add-one b, eq-eqb (slot_for g t b) s e) (and_false_right (free g t b s) refl)

  free_miss : (b s : ℕ) → slot_for g t b ≢ s → free g t (b + 1) s ≡ free g t b s
  unfolding free all_below
  free_miss b s ne = rw (add-one b, ne_eqb (slot_for g t b) s ne) (all_true (free g t b s))
    where
      all_true : (q : Bool) → (q && true) ≡ q
      all_true true = refl
      all_true false = refl

  -- ---- a pass: the bit of a slot is set exactly where a block below b stands in it
  abbrev pub Marks : ℕ → ℕ → ℕ → List ℕ → Type 0
  Marks from to b seen = (s : ℕ) → from ≤ s → s < to → clear seen (s % slots_at_once) ≡ free g t b s

  pub marks_none : (from to : ℕ) (seen : List ℕ) → ((s : ℕ) → s < slots_at_once → byte_of s seen ≡ 0) → Marks from to 0 seen
  unfolding free
  marks_none from to seen z s lo hi = clear_zero (s % slots_at_once) seen (z (s % slots_at_once) (omega arith)) ∙ sym (all_none _)

  -- ---- windows
  -- block b stands in no slot of the window, or before it no other does in its slot
  abbrev pub passes : ℕ → ℕ → ℕ → Bool
  passes from to b = not (within from to (slot_for g t b)) || free g t b (slot_for g t b)

  apart_facts : (from to : ℕ) → apart g t from to ≡ true → (b : ℕ) → b < taken g t → from ≤ slot_for g t b → slot_for g t b < to → free g t b (slot_for g t b) ≡ true
  unfolding apart
  apart_facts from to e b l lo hi =
      rw (is_within from to (slot_for g t b) lo hi) at (all_below_lem (taken g t) (passes from to) e b l)

  facts_apart : (from to : ℕ) → ((b : ℕ) → b < taken g t → from ≤ slot_for g t b → slot_for g t b < to → free g t b (slot_for g t b) ≡ true) → apart g t from to ≡ true
  unfolding apart
  facts_apart from to f = below_all (taken g t) (passes from to) (λ b l. go b l (within from to (slot_for g t b)) refl)
    where
      go : (b : ℕ) → b < taken g t → (q : Bool) → within from to (slot_for g t b) ≡ q → passes from to b ≡ true
      go b l true e = let w = within_facts from to (slot_for g t b) e in rw e (f b l w.0 w.1)
      go b l false e = rw e

  pub apart_none : (at : ℕ) → apart g t at at ≡ true
  apart_none at = facts_apart at at (λ b l lo hi. absurd (omega arith))

  pub apart_join : (from mid to : ℕ) → apart g t from mid ≡ true → apart g t mid to ≡ true → apart g t from to ≡ true
  apart_join from mid to a z = facts_apart from to (λ b l lo hi. go b l lo hi (dec_lt (slot_for g t b) mid))
    where
      go : (b : ℕ) → b < taken g t → from ≤ slot_for g t b → slot_for g t b < to → Dec (slot_for g t b < mid) → free g t b (slot_for g t b) ≡ true
      go b l lo hi (yes h) = apart_facts from mid a b l lo h
      go b l lo hi (no h) = apart_facts mid to z b l (omega arith) hi

  -- a repeat in a part is one in the whole
  pub apart_part : (from to a z : ℕ) → from ≤ a → z ≤ to → apart g t a z ≡ false → apart g t from to ≡ false
  apart_part from to a z lo hi e = go (apart g t from to) refl
    where
      go : (q : Bool) → apart g t from to ≡ q → apart g t from to ≡ false
      go true d = clash (apart g t a z) (facts_apart a z (λ b l m n. apart_facts from to d b l (omega arith) (omega arith))) e
      go false d = d

  module _ (L : Slotted g t) (b : ℕ) (l : b < taken g t) where
    pub slot_before : (first : ℕ) → owner g t b < first → slot_for g t b < start_of g t first
    slot_before first h = omega (arith, L.named b l, sum_gap first (need_of g t) (owner g t b) h)

    pub slot_after : (last : ℕ) → last ≤ owner g t b → start_of g t last ≤ slot_for g t b
    slot_after last h = omega (arith, sum_mono (need_of g t) last (owner g t b) h)

    -- one slot is one pair
    slot_names : (a : ℕ) → a < taken g t → eqb (slot_for g t a) (slot_for g t b) ≡ names g t (owner g t b) (place g t b) a
    slot_names a k = go (ℕ_discrete (slot_for g t a) (slot_for g t b)) (names g t (owner g t b) (place g t b) a) refl
      where
        go : Dec (slot_for g t a ≡ slot_for g t b) → (q : Bool) → names g t (owner g t b) (place g t b) a ≡ q → eqb (slot_for g t a) (slot_for g t b) ≡ q
        go (yes e) true d = eq-eqb _ _ e
        go (yes e) false d =
            let s = slots_apart g t (owner g t a) (owner g t b) (place g t a) (place g t b) (L.named a k) (L.named b l) e in
            clash (names g t (owner g t b) (place g t b) a) (and_true (eq-eqb _ _ s.0) (eq-eqb _ _ s.1)) d
        go (no e) true d =
            let p = and_parts (eqb (owner g t a) (owner g t b)) (eqb (place g t a) (place g t b)) d in
            let o = eqb-true (owner g t a) (owner g t b) p.0 in
            let q = eqb-true (place g t a) (place g t b) p.1 in
            absurd (e (rw (o, q)))
        go (no e) false d = ne_eqb _ _ e

    free_alone : free g t b (slot_for g t b) ≡ alone g t b
    unfolding free
    free_alone = all_ext b _ _ (λ a h. ap not (slot_names a (omega arith)))

  pub apart_alone : Slotted g t → apart g t 0 (taken g t) ≡ all_below (taken g t) (alone g t)
  unfolding apart
  apart_alone L =
      all_ext (taken g t) (passes 0 (taken g t)) (alone g t)
      (λ b l. rw (is_within 0 (taken g t) (slot_for g t b) (omega arith) (slot_below g t L b l)) (free_alone L b l))

  -- ---- a window: a block is of its runs exactly where it stands in one of its slots, and the starts at hand tell that slot
  module _ (w : Window) (starts : List ℕ) (L : Slotted g t) (F : Framed g t w starts) (N : Run g t w) (b : ℕ) (l : b < taken g t) where
    abbrev told : ℕ
    told = slot_by g t starts b

    -- its slot, where its region is of the window's run
    of_run : owner g t b / regions_at_once ≡ w.first.0 / regions_at_once → (w.first.0 ≤ owner g t b) × (owner g t b < w.last.0) × (told ≡ slot_for g t b)
    of_run e =
        let lo : w.first.0 ≤ owner g t b = omega (arith, F.aligned) in
        let hi : owner g t b < w.last.0 = omega (arith, F.aligned, F.whole, owner_below g t L b l) in
        let n : owner g t b % regions_at_once ≡ owner g t b - w.first.0 = omega (arith, F.aligned) in
        (lo, hi, rw n (omega (arith, F.known (owner g t b) lo hi)))

    not_of_run : owner g t b / regions_at_once ≢ w.first.0 / regions_at_once → within w.from w.to (slot_for g t b) ≡ false
    not_of_run ne = go (dec_lt (owner g t b) w.first.0)
      where
        go : Dec (owner g t b < w.first.0) → within w.from w.to (slot_for g t b) ≡ false
        go (yes h) = is_before w.from w.to _ (omega (arith, slot_before L b l w.first.0 h, N.low))
        go (no h) = is_after w.from w.to _ (omega (arith, slot_after L b l w.last.0 (omega (arith, F.aligned, F.whole, owner_below g t L b l)), N.high))

    pub in_window_lem : (in_window g t w told b ≡ within w.from w.to (slot_for g t b)) × (within w.from w.to (slot_for g t b) ≡ true → told ≡ slot_for g t b)
    in_window_lem = go (ℕ_discrete (owner g t b / regions_at_once) (w.first.0 / regions_at_once))
      where
        go : Dec (owner g t b / regions_at_once ≡ w.first.0 / regions_at_once)
            → (in_window g t w told b ≡ within w.from w.to (slot_for g t b)) × (within w.from w.to (slot_for g t b) ≡ true → told ≡ slot_for g t b)
        go (yes e) =
            let q = of_run e in
            (rw (eq-eqb _ _ e, q.2) (N.exact (slot_for g t b) (slot_after L b l w.first.0 q.0) (slot_before L b l w.last.0 q.1)), λ _. q.2)
        go (no ne) =
            let o = not_of_run ne in
            (rw (ne_eqb _ _ ne) (sym o), λ i. clash (within w.from w.to (slot_for g t b)) i o)

    module _ (seen : List ℕ) (M : Marks w.from w.to b seen) where
      -- what the pass does with the block
      pub unseen_free : unseen (told % slots_at_once) (digit (in_window g t w told b)) seen ≡ passes w.from w.to b
      unseen_free = rw in_window_lem.0 (go (within w.from w.to (slot_for g t b)) refl)
        where
          go : (q : Bool) → within w.from w.to (slot_for g t b) ≡ q
              → unseen (told % slots_at_once) (digit (within w.from w.to (slot_for g t b))) seen ≡ passes w.from w.to b
          go true e =
              let f = within_facts w.from w.to (slot_for g t b) e in
              rw (e, in_window_lem.1 e) (unseen_one (slot_for g t b % slots_at_once) seen ∙ M (slot_for g t b) f.0 f.1)
          go false e = rw e (unseen_none (told % slots_at_once) seen)

      pub marks_more : length seen ≡ mark_bytes → Marks w.from w.to (b + 1) (marked (told % slots_at_once) (digit (in_window g t w told b)) seen)
      marks_more n u lo hi = rw in_window_lem.0 (go (within w.from w.to (slot_for g t b)) refl (ℕ_discrete u (slot_for g t b)))
        where
          -- slots of the window with the same bit are the same
          one_bit : (s : ℕ) → within w.from w.to s ≡ true → u ≢ s → u % slots_at_once ≢ s % slots_at_once
          one_bit s e ne z =
              let f = within_facts w.from w.to s e in
              let i : s / slots_at_once ≡ w.from / slots_at_once = eqb-true _ _ (N.exact s (omega (arith, N.low)) (omega (arith, N.high)) ∙ e) in
              let j : u / slots_at_once ≡ w.from / slots_at_once = eqb-true _ _ (N.exact u (omega (arith, N.low)) (omega (arith, N.high)) ∙ is_within w.from w.to u lo hi) in
              ne (omega arith)

          go : (q : Bool) → within w.from w.to (slot_for g t b) ≡ q → Dec (u ≡ slot_for g t b)
              → clear (marked (told % slots_at_once) (digit (within w.from w.to (slot_for g t b))) seen) (u % slots_at_once) ≡ free g t (b + 1) u
          go true e (yes d) =
              rw (e, in_window_lem.1 e)
              (clear_here (slot_for g t b % slots_at_once) (u % slots_at_once) seen (omega arith) (ap (λ (z : ℕ). z % slots_at_once) d) ∙ sym (free_hit b u (sym d)))
          go true e (no d) =
              rw (e, in_window_lem.1 e)
              (clear_else (slot_for g t b % slots_at_once) (u % slots_at_once) seen (omega arith) (one_bit (slot_for g t b) e d)
              ∙ M u lo hi ∙ sym (free_miss b u (λ z. d (sym z))))
          go false e (yes d) = clash (within w.from w.to (slot_for g t b)) (is_within w.from w.to (slot_for g t b) (omega arith) (omega arith)) e
          go false e (no d) =
              rw e (clear_none (told % slots_at_once) (u % slots_at_once) seen (omega arith) ∙ M u lo hi ∙ sym (free_miss b u (λ z. d (sym z))))

-- ---- runs: of the slots from `low` up to `high`, those of the run of `from` end at `to`
pub run_exact : (low high from to : ℕ) → low ≤ from → from < high → ((s : ℕ) → low ≤ s → s < from → s / slots_at_once < from / slots_at_once)
    → to ≡ min high ((from / slots_at_once + 1) * slots_at_once)
    → (s : ℕ) → low ≤ s → s < high → eqb (s / slots_at_once) (from / slots_at_once) ≡ within from to s
run_exact low high from to lf fh earlier e s lo hi = go (dec_lt s from) (dec_lt s to)
  where
    go : Dec (s < from) → Dec (s < to) → eqb (s / slots_at_once) (from / slots_at_once) ≡ within from to s
    go (yes h) _ = ne_eqb (s / slots_at_once) (from / slots_at_once) (λ z. omega (arith, earlier s lo h)) ∙ sym (is_before from to s h)
    go (no h) (yes k) = eq-eqb (s / slots_at_once) (from / slots_at_once) (omega arith) ∙ sym (is_within from to s (omega arith) k)
    go (no h) (no k) = ne_eqb (s / slots_at_once) (from / slots_at_once) (λ z. omega arith) ∙ sym (is_after from to s (omega arith))
