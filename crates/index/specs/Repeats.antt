-- Whether two blocks name the same pair, asked of some regions and some slots at a time: a bit for each slot that is seen.
use Rattle.std.specs.Prelude.{ℕ, ◌+◌, ◌-◌, ◌*◌, ◌/◌, ◌%◌, ◌^◌, ◌≤◌, ◌<◌, min, Bool, not, ◌&&◌, ◌||◌, cond, ◌≡◌, List, eqb, leb, ltb, get_or, set, length}
use Rattle.std.specs.Int.Bits.{bit_and, bit_or}
use Rattle.laws.specs.Folds.{all_below}
use Rattle.paper.specs.declared.Geometry.{Geometry}
use Rattle.paper.specs.Image.{taken, owner, place}
use Rattle.paper.specs.Index.{start_of}
use Rattle.rules.specs.Facts.{slot_for}
use Rattle.index.specs.declared.Window.{Window}

-- the regions whose starts are at hand at once, the slots that have a bit, and the bytes of these
abbrev pub regions_at_once : ℕ
regions_at_once = 6144

abbrev pub slots_at_once : ℕ
slots_at_once = 32768

abbrev pub mark_bytes : ℕ
mark_bytes = 4096

-- 1 for true
abbrev pub digit : Bool → ℕ
digit q = cond q 1 0

-- ---- bits: bit s stands in byte s / 8
abbrev pub byte_of : ℕ → List ℕ → ℕ
byte_of s seen = get_or seen (s / 8) 0

-- bit s is not set, or `one` is 0
unfoldable pub unseen : ℕ → ℕ → List ℕ → Bool
unseen s one seen = eqb (bit_and (byte_of s seen) (one * 2 ^ (s % 8))) 0

-- bit s set, where `one` is 1
unfoldable pub marked : ℕ → ℕ → List ℕ → List ℕ
marked s one seen = set seen (s / 8) (bit_or (byte_of s seen) (one * 2 ^ (s % 8)))

-- ---- slots
-- s is one of the slots from `from` up to, and without, `to`
abbrev pub within : ℕ → ℕ → ℕ → Bool
within from to s = leb from s && ltb s to

module _ (g : Geometry) (t : List ℕ) where
  -- no block below b stands in slot s
  unfoldable pub free : ℕ → ℕ → Bool
  free b s = all_below b (λ a. not (eqb (slot_for g t a) s))

  -- no two blocks below N stand in one slot from `from` up to `to`
  unfoldable pub apart : ℕ → ℕ → Bool
  apart from to = all_below (taken g t) (λ b. not (within from to (slot_for g t b)) || free b (slot_for g t b))

  -- ---- a pass
  -- the starts of the regions from `first` up to `last`
  abbrev pub StartsFrom : ℕ → ℕ → List ℕ → Type 0
  StartsFrom first last starts = (r : ℕ) → first ≤ r → r < last → get_or starts (r - first) 0 ≡ start_of g t r

  -- block b's slot by the starts at hand
  abbrev pub slot_by : List ℕ → ℕ → ℕ
  slot_by starts b = get_or starts (owner g t b % regions_at_once) 0 + place g t b

  -- block b's region is of the window's run of regions, and s of its run of slots
  abbrev pub in_window : Window → ℕ → ℕ → Bool
  in_window w s b = eqb (owner g t b / regions_at_once) (w.first.0 / regions_at_once) && eqb (s / slots_at_once) (w.from / slots_at_once)

  -- a window's regions are a run of so many, or what is left of one; their starts are at hand
  pub record Framed (w : Window) (starts : List ℕ) : Type 0 where
    pub aligned : w.first.0 % regions_at_once ≡ 0
    pub order : w.first.0 ≤ g.entries
    pub whole : w.last.0 ≡ w.first.0 + min (g.entries - w.first.0) regions_at_once
    pub room : length starts ≡ regions_at_once
    pub known : StartsFrom w.first.0 w.last.0 starts

  -- its slots are all that its regions have
  pub record All (w : Window) : Type 0 where
    pub low : w.from ≡ start_of g t w.first.0
    pub high : w.to ≡ start_of g t w.last.0

  -- its slots are those of one run that its regions have
  pub record Run (w : Window) : Type 0 where
    pub low : start_of g t w.first.0 ≤ w.from
    pub high : w.to ≤ start_of g t w.last.0
    pub exact : (s : ℕ) → start_of g t w.first.0 ≤ s → s < start_of g t w.last.0
        → eqb (s / slots_at_once) (w.from / slots_at_once) ≡ within w.from w.to s
