-- The rules but for the last sentence of d, then that sentence; and what a lent index bears witness to.
use Prim.Native.Nat.{ℕ, ◌*◌, ◌%◌, ◌≤◌}
use mathlib.Core.Bool.{Bool, true, false, ◌&&◌}
use mathlib.Core.Logic.{◌≢◌}
use mathlib.Core.Path.{◌≡◌, refl, ◌∙◌, ap}
use mathlib.Core.List.{List}
use native.Mathlib.Omega.{arith}
use native.Mathlib.Nat.{mul-le-mul_right}
use borrow.Author.Tests.{eqb-true, eq-eqb}
use lib.Dec.{eqb}
use Rattle.laws.specs.Folds.{all_below, sum_below}
use Rattle.laws.proofs.Tests.{clash, and_left, and_right, and_parts, and_true}
use Rattle.laws.proofs.Known.{Bytes}
use Rattle.laws.proofs.Folds.{all_below_lem, sum_gap}
use Rattle.paper.specs.declared.Geometry.{Geometry}
use Rattle.paper.specs.Geometry.{reclaimed, most_book_pages, Allowed}
use Rattle.paper.specs.Image.{front, taken, owner, place, pages_of, is_open, need_of}
use Rattle.paper.specs.WellFormed.{rule_a, rule_b, rule_c, named, alone, rule_d, rule_e, in_order}
use Rattle.paper.specs.Index.{index_of}
use Rattle.paper.proofs.Arithmetic.{need_enough}
use Rattle.rules.specs.Facts.{Rules, Indexed, Entered}
use Rattle.rules.specs.Lines.{ordered_no}
use Rattle.rules.proofs.Facts.{open_below, need_open, needs_open, rule_a_facts, facts_rule_a, rule_c_facts, named_facts, rule_e_facts, facts_rule_e, order_rules}
use Rattle.rules.proofs.Lines.{ordered_7, ordered_0}
use Rattle.index.specs.Slotted.{Slotted}
use Rattle.index.specs.Witnessed.{witnessed}
use Rattle.index.proofs.Witness.{witness_facts, witnessed_once, witnessed_index, index_witnessed}
use Rattle.recovery.specs.Refused.{loosely, vouched}

module _ (g : Geometry) (t : List ℕ) where
  pub loosely_facts : loosely g t ≡ true → Slotted g t
  unfolding loosely
  loosely_facts e =
      let p3 = and_parts _ (all_below (taken g t) (named g t)) (and_left _ (rule_e g t) e) in
      record {
        total = rule_c_facts g t (and_right (rule_a g t && rule_b g t) (rule_c g t) p3.0);
        named = λ b l. named_facts g t b (all_below_lem (taken g t) (named g t) p3.1 b l);
      }

  -- the last sentence of d may come last
  order_last : in_order g t ≡ (loosely g t && all_below (taken g t) (alone g t))
  unfolding in_order rule_d loosely
  order_last = go (rule_a g t && rule_b g t && rule_c g t) (all_below (taken g t) (named g t)) (all_below (taken g t) (alone g t)) (rule_e g t)
    where
      go : (x n o e : Bool) → (x && (n && o) && e) ≡ (x && n && e && o)
      go false n o e = refl
      go true false o e = refl
      go true true true true = refl
      go true true true false = refl
      go true true false true = refl
      go true true false false = refl

  pub order_loose : loosely g t ≡ true → in_order g t ≡ all_below (taken g t) (alone g t)
  order_loose e = order_last ∙ rw e

  pub order_not_loose : loosely g t ≡ false → in_order g t ≡ false
  order_not_loose e = order_last ∙ rw e

  -- ---- what a lent index bears witness to
  module _ (A : Allowed g) (bound : taken g t ≤ g.blocks) (index : List ℕ) where
    pub vouched_facts : vouched g t index ≡ true → Rules g t × (witnessed g t index ≡ true)
    unfolding vouched
    vouched_facts e =
        let p = and_parts _ (witnessed g t index) e in
        let q = and_parts _ (rule_e g t) p.0 in
        let o = and_parts (rule_a g t) (eqb (pages_of g t reclaimed % g.pages) 0) q.0 in
        let a = rule_a_facts g t o.0 in
        let L = (witness_facts g t index p.1).1 in (
          record {
            low = a.0;
            high = a.1;
            editions = a.2;
            fits = λ r h. fits_summed r h L.total;
            whole = eqb-true _ _ o.1;
            total = L.total;
            owned = λ b l. needs_open g t (owner g t b) (place g t b) (L.named b l);
            named = L.named;
            once = witnessed_once g t index p.1;
            blank = rule_e_facts g t q.1;
          },
          p.1,
        )
      where
        -- where the needs sum to N, each book's pages fit into so many blocks
        fits_summed : (r : ℕ) → is_open g t r ≡ true → sum_below g.entries (need_of g t) ≡ taken g t → pages_of g t r ≤ most_book_pages g
        fits_summed r h total =
            let k : need_of g t r ≤ g.blocks = omega (arith, sum_gap g.entries (need_of g t) r (open_below g t r h)) in
            omega (arith, need_enough g A.pages_least (pages_of g t r), ap (λ (n : ℕ). n * g.pages) (need_open g t r h), mul-le-mul_right g.pages k)

    pub rules_vouched : Rules g t → witnessed g t index ≡ true → vouched g t index ≡ true
    unfolding vouched
    rules_vouched R w = and_true (and_true (and_true (facts_rule_a g t R.low R.high R.editions) (eq-eqb _ _ R.whole)) (facts_rule_e g t R.blank)) w

module _ (g : Geometry) (image index : List ℕ) (E : Entered g image index) where
  abbrev t : List ℕ
  t = front g image

  pub lent_index : Indexed g index
  lent_index = record { allowed = E.geometry; long = E.indexed }

  module _ (bytes : Bytes index) where
    pub order_0 : vouched g (front g image) index ≡ true → ordered_no g image index ≡ 0
    order_0 v =
        let bound = E.header.taken_most in
        let f = vouched_facts g t E.geometry bound index v in
        ordered_0 g image index E f.0 (witnessed_index g t index lent_index bytes f.0 bound f.1)

    pub order_7 : vouched g (front g image) index ≡ false → in_order g (front g image) ≡ true → ordered_no g image index ≡ 7
    order_7 v e =
        let bound = E.header.taken_most in
        let R = order_rules g t e in
        let other : index ≢ index_of g t = λ z. clash (vouched g t index)
        (rules_vouched g t E.geometry bound index R (index_witnessed g t index lent_index bytes R bound z)) v in
        ordered_7 g image index E R other
