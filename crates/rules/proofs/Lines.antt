-- The lines of "Order of checks": what each check asks, what a line's beginning has shown, which number each call answers and when, and what it
-- leaves when it is done. Only this file opens `checks` and `accepted`.
use Prim.Native.Nat.{ℕ, ◌+◌, ◌-◌, ◌*◌, ◌/◌, ◌≤◌, ◌<◌}
use mathlib.Core.Bool.{true, false, not, ◌||◌, cond}
use mathlib.Core.Logic.{◌≢◌, ◌↔◌}
use mathlib.Core.Path.{◌≡◌, refl, sym, ◌∙◌, ap}
use mathlib.Core.List.{List, [], ◌∷◌, ◌++◌}
use native.Mathlib.Omega.{arith}
use native.Mathlib.Decide.{ℕ_discrete}
use borrow.Author.Tests.{eqb-true, eqb-false, eq-eqb, ne_eqb, ltb-false, le-ltb, leb-true, leb-false, le-leb, lt-leb, not-false}
use lib.Dec.{eqb, leb, ltb}
use lib.ListN.{get_or, length}
use lib.Seq.{get_or-take}
use Rattle.laws.proofs.Tests.{clash, and_parts, and_true, or_false, or_parts_false, not_of_true}
use Rattle.laws.proofs.Folds.{all_ext}
use Rattle.laws.proofs.Lists.{same_refl, same_eq}
use Rattle.laws.specs.Bytes.{same}
use Rattle.paper.specs.declared.Geometry.{Geometry}
use Rattle.paper.specs.Answers.{Done, Refused}
use Rattle.paper.specs.declared.Version.{Version}
use Rattle.paper.specs.declared.Version.TheVariants.{Two}
use Rattle.paper.specs.Geometry.{header_bytes, fixed_regions, reclaimed, block_bytes, allowed, Allowed, no_region, need, capacity, most_book_pages, front_bytes, index_bytes}
use Rattle.paper.specs.Image.{front, rest, blanked, stamped, taken, counter, pages_of, edition_of, need_of}
use Rattle.paper.specs.WellFormed.{in_order}
use Rattle.paper.specs.Index.{index_of, empty_index, block_in}
use Rattle.paper.specs.Calls.{Call, lay, «open», grow, load, store, look, size, release, recover, laid, next_region, opened, loaded, stored, new_blocks, grown, look_bytes, released}
use Rattle.paper.specs.Refusals.{Check, first, header_right, touched_right, usable, blank, unused_blank, no1, no2, no3, no4, no5, no6, no6of, no7, no7of, no8, no8release, no9, no10, no11, no12, no16, no18, to4, to5, to7, naming, of_book, checks, refusal, well_formed}
use Rattle.paper.specs.Move.{moved_front, moved_image, no13, move_refusal, move_outcome}
use Rattle.paper.specs.Outcomes.{number_of, value_of, edition_in, opening, State, lent, gives, tabled, accepted, buffer, outcome}
use Rattle.paper.proofs.Arithmetic.{allowed_facts, facts_allowed, whole_block}
use Rattle.rules.specs.Facts.{Rules, Header, Formed, Readable, Headed, Whole, Entered, Ordered, IsBook, Reads, Movable}
use Rattle.rules.specs.Unused.{inspects}
use Rattle.rules.specs.Lines.{head_no, whole_no, name_no, book_no, lent_no, indexed_head_no, entered_no, ordered_no, read_no}
use Rattle.rules.proofs.Cells.{length_front}
use Rattle.rules.proofs.Facts.{order_rules, rules_order}
use Rattle.rules.proofs.Index.{length_index}
use Rattle.rules.proofs.First.{Passes, first_nil, pass, halt, shown, distinct, first_exactly, first_stop}
use Rattle.rules.proofs.Usable.{usable_facts, callable_facts}

-- ---- the header
module _ (g : Geometry) (t : List ℕ) where
  header_facts : header_right g t ≡ true → Header g t
  unfolding header_right
  header_facts e =
      let p3 = and_parts _ (leb (counter g t) (no_region g)) e in
      let p2 = and_parts _ (leb fixed_regions (counter g t)) p3.0 in
      let p1 = and_parts (stamped g t) (leb (taken g t) g.blocks) p2.0 in
      record { stamp = p1.0; taken_most = leb-true _ _ p1.1; counter_least = leb-true _ _ p2.1; counter_most = leb-true _ _ p3.1 }

  facts_header : Header g t → header_right g t ≡ true
  unfolding header_right
  facts_header h =
      and_true
      (and_true (and_true h.stamp (le-leb _ _ h.taken_most)) (le-leb _ _ h.counter_least))
      (le-leb _ _ h.counter_most)

-- ---- what each check asks
module _ (g : Geometry) (image index : List ℕ) where
  abbrev t : List ℕ
  t = front g image

  ask1 : Passes (no1 g image index) (Allowed g)
  ask1 = record { fine = λ A. not_of_true (facts_allowed g A); shows = λ e. allowed_facts g (not-false _ e) }

  ask2 : Passes (no2 g image index) (length index ≡ index_bytes g)
  ask2 = record { fine = λ e. not_of_true (eq-eqb _ _ e); shows = λ e. eqb-true _ _ (not-false _ e) }

  ask3 : Passes (no3 g image index) (block_bytes g ≤ length image)
  ask3 = record { fine = λ l. le-ltb _ _ l; shows = λ e. ltb-false _ _ e }

  ask4 : Passes (no4 g image index) (Header g (front g image))
  ask4 = record { fine = λ H. not_of_true (facts_header g t H); shows = λ e. header_facts g t (not-false _ e) }

  ask5 : Passes (no5 g image index) (taken g (front g image) ≤ capacity g (length image))
  ask5 = record { fine = λ l. le-ltb _ _ l; shows = λ e. ltb-false _ _ e }

  ask6 : Passes (no6 g image index) (Rules g (front g image))
  ask6 = record { fine = λ R. not_of_true (rules_order g t R); shows = λ e. order_rules g t (not-false _ e) }

  ask7 : Passes (no7 g image index) (index ≡ index_of g (front g image))
  ask7 = record {
    fine = λ e. not_of_true {b = same index (index_of g t)} (rw e (same_refl (index_of g t)));
    shows = λ e. same_eq _ _ (not-false _ e);
  }

  module _ (r : ℕ) where
    ask8 : Passes (no8 g image index r) (usable g (front g image) r ≡ true)
    ask8 = record { fine = λ u. not_of_true u; shows = λ e. not-false _ e }

    ask8release : Passes (no8release g image index r) ((usable g (front g image) r ≡ true) × (r ≢ 0))
    ask8release = record {
      fine = λ p. or_false {b = not (usable g t r)} (ne_eqb r 0 p.1) (not_of_true p.0);
      shows = λ e. let p = or_parts_false (eqb r 0) (not (usable g t r)) e in (not-false _ p.1, eqb-false r 0 p.0);
    }

    ask18 : (d : ℕ) → Passes (no18 g image index r d) (edition_of g (front g image) r ≡ d)
    ask18 d = record { fine = λ e. not_of_true (eq-eqb _ _ e); shows = λ e. eqb-true _ _ (not-false _ e) }

    ask6of : Passes (no6of g image index r) (pages_of g (front g image) r ≤ most_book_pages g)
    ask6of = record { fine = λ l. le-ltb _ _ l; shows = λ e. ltb-false _ _ e }

    ask9 : (o n : ℕ) → Passes (no9 g image index r o n) (o + n ≤ pages_of g (front g image) r * g.page)
    ask9 o n = record { fine = λ l. le-ltb _ _ l; shows = λ e. ltb-false _ _ e }

    ask7of : (o n : ℕ) → Passes (no7of g image index r o n) (touched_right g (front g image) index r o n ≡ true)
    ask7of o n = record { fine = λ u. not_of_true u; shows = λ e. not-false _ e }

    ask10 : (n : ℕ) → Passes (no10 g image index r n)
        (new_blocks g r n (front g image) ≤ need_of g (front g image) reclaimed + (capacity g (length image) - taken g (front g image)))
    ask10 n = record { fine = λ l. le-ltb _ _ l; shows = λ e. ltb-false _ _ e }

  ask11 : Passes (no11 g image index) (next_region g (front g image) < no_region g)
  ask11 = record { fine = λ l. lt-leb _ _ l; shows = λ e. leb-false _ _ e }

  ask12 : Passes (no12 g image index) (blank g image ≡ true)
  ask12 = record { fine = λ b. not_of_true b; shows = λ e. not-false _ e }

  ask16 : Passes (no16 g image index) (unused_blank g image ≡ true)
  ask16 = record { fine = λ b. not_of_true b; shows = λ e. not-false _ e }

  ask13 : (n : ℕ) → Passes (no13 g n image index) ((need g n + 1 ≤ length image / block_bytes g) × (need g n ≤ g.blocks))
  ask13 n = record {
    fine = λ p. or_false (le-ltb _ _ p.0) (le-ltb _ _ p.1);
    shows = λ e. let p = or_parts_false (ltb (length image / block_bytes g) (need g n + 1)) _ e in (ltb-false _ _ p.0, ltb-false _ _ p.1);
  }

-- ---- checks 3, 4, 16, 5, 6: an image is well-formed exactly where it is long enough for the reserve, its front is in order and the rest of its
-- reserve blank
module _ (g : Geometry) (image : List ℕ) (A : Allowed g) where
  formed : Headed g image → taken g (front g image) ≤ capacity g (length image) → Rules g (front g image)
      → Formed g (capacity g (length image)) (front g image)
  formed H tail R = record {
    full = length_front g image (omega (arith, H.readable.long, H.readable.allowed.reserve));
    header = H.header;
    tail = tail;
    rules = R;
  }

  pub formed_image : well_formed g image ≡ true
      → (block_bytes g ≤ length image) × (unused_blank g image ≡ true) × Formed g (capacity g (length image)) (front g image)
  unfolding well_formed
  formed_image e =
      let f3 = shown (ask3 g image []) _ (omega arith) (eqb-true _ _ e) in
      let f4 = shown (ask4 g image []) _ (omega arith) f3.1 in
      let f16 = shown (ask16 g image []) _ (omega arith) f4.1 in
      let f5 = shown (ask5 g image []) _ (omega arith) f16.1 in
      let f6 = shown (ask6 g image []) _ (omega arith) f5.1 in
      (f3.0, f16.0, formed (record { readable = record { allowed = A; long = f3.0 }; header = f4.0 }) f5.0 f6.0)

  pub image_formed : block_bytes g ≤ length image → unused_blank g image ≡ true → Formed g (capacity g (length image)) (front g image)
      → well_formed g image ≡ true
  unfolding well_formed
  image_formed long b F =
      eq-eqb _ _
      (pass (ask3 g image []) _ long ∙ pass (ask4 g image []) _ F.header ∙ pass (ask16 g image []) _ b ∙ pass (ask5 g image []) _ F.tail
      ∙ pass (ask6 g image []) _ F.rules ∙ first_nil)

-- ---- the beginnings without an index
module _ (g : Geometry) (image : List ℕ) where
  -- 1, 3, 4
  pub head_shown : head_no g image ≡ 0 → Headed g image
  unfolding head_no
  head_shown e =
      let f1 = shown (ask1 g image []) _ (omega arith) e in
      let f3 = shown (ask3 g image []) _ (omega arith) f1.1 in
      let f4 = shown (ask4 g image []) _ (omega arith) f3.1 in
      record { readable = record { allowed = f1.0; long = f3.0 }; header = f4.0 }

  pub head_1 : allowed g ≡ false → head_no g image ≡ 1
  unfolding head_no
  head_1 a = halt (ask1 g image []) _ (λ A. clash (allowed g) (facts_allowed g A) a)

  pub head_3 : Allowed g → length image < block_bytes g → head_no g image ≡ 3
  unfolding head_no
  head_3 A l = pass (ask1 g image []) _ A ∙ halt (ask3 g image []) _ (λ h. omega arith)

  module _ (R : Readable g image) where
    pub head_4 : header_right g (front g image) ≡ false → head_no g image ≡ 4
    unfolding head_no
    head_4 h =
        pass (ask1 g image []) _ R.allowed ∙ pass (ask3 g image []) _ R.long
        ∙ halt (ask4 g image []) _ (λ H. clash (header_right g (front g image)) (facts_header g (front g image) H) h)

    pub head_0 : header_right g (front g image) ≡ true → head_no g image ≡ 0
    unfolding head_no
    head_0 h =
        pass (ask1 g image []) _ R.allowed ∙ pass (ask3 g image []) _ R.long
        ∙ pass (ask4 g image []) _ (header_facts g (front g image) h) ∙ first_nil

  -- 1, 3, 4, and then 5
  whole_line : (cs : List Check) → Headed g image → first (no1 g image [] ∷ no3 g image [] ∷ no4 g image [] ∷ cs) ≡ first cs
  whole_line cs H = pass (ask1 g image []) _ H.readable.allowed ∙ pass (ask3 g image []) _ H.readable.long ∙ pass (ask4 g image []) _ H.header

  pub whole_shown : whole_no g image ≡ 0 → Whole g image
  unfolding whole_no
  whole_shown e =
      let f1 = shown (ask1 g image []) _ (omega arith) e in
      let f3 = shown (ask3 g image []) _ (omega arith) f1.1 in
      let f4 = shown (ask4 g image []) _ (omega arith) f3.1 in
      let f5 = shown (ask5 g image []) _ (omega arith) f4.1 in
      record { headed = record { readable = record { allowed = f1.0; long = f3.0 }; header = f4.0 }; tail = f5.0 }

  pub whole_stop : (k : ℕ) → k ≡ head_no g image → k ≢ 0 → whole_no g image ≡ k
  unfolding head_no whole_no
  whole_stop k e ne = first_stop (no1 g image [] ∷ no3 g image [] ∷ no4 g image [] ∷ []) (no5 g image [] ∷ []) refl k (sym e) ne

  module _ (H : Headed g image) where
    pub whole_5 : capacity g (length image) < taken g (front g image) → whole_no g image ≡ 5
    unfolding whole_no
    whole_5 l = whole_line (no5 g image [] ∷ []) H ∙ halt (ask5 g image []) _ (λ h. omega arith)

    pub whole_0 : taken g (front g image) ≤ capacity g (length image) → whole_no g image ≡ 0
    unfolding whole_no
    whole_0 l = whole_line (no5 g image [] ∷ []) H ∙ pass (ask5 g image []) _ l ∙ first_nil

  -- 8 and 18, of one book
  module _ (r d : ℕ) where
    pub name_shown : name_no g image r d ≡ 0 → IsBook g (front g image) r d
    unfolding name_no
    name_shown e =
        let f8 = shown (ask8 g image [] r) _ (omega arith) e in
        record { usable = f8.0; edition = (shown (ask18 g image [] r d) _ (omega arith) f8.1).0 }

    pub name_8 : usable g (front g image) r ≡ false → name_no g image r d ≡ 8
    unfolding name_no
    name_8 u = halt (ask8 g image [] r) _ (λ h. clash (usable g (front g image) r) h u)

    pub name_18 : usable g (front g image) r ≡ true → edition_of g (front g image) r ≢ d → name_no g image r d ≡ 18
    unfolding name_no
    name_18 u ne = pass (ask8 g image [] r) _ u ∙ halt (ask18 g image [] r d) _ ne

    pub name_0 : IsBook g (front g image) r d → name_no g image r d ≡ 0
    unfolding name_no
    name_0 b = pass (ask8 g image [] r) _ b.usable ∙ pass (ask18 g image [] r d) _ b.edition ∙ first_nil

  -- and 6
  module _ (r d : ℕ) where
    pub book_shown : book_no g image r d ≡ 0 → IsBook g (front g image) r d × (pages_of g (front g image) r ≤ most_book_pages g)
    unfolding book_no
    book_shown e =
        let f8 = shown (ask8 g image [] r) _ (omega arith) e in
        let f18 = shown (ask18 g image [] r d) _ (omega arith) f8.1 in
        (record { usable = f8.0; edition = f18.0 }, (shown (ask6of g image [] r) _ (omega arith) f18.1).0)

    pub book_stop : (k : ℕ) → k ≡ name_no g image r d → k ≢ 0 → book_no g image r d ≡ k
    unfolding name_no book_no
    book_stop k e ne = first_stop (naming g image [] r d []) (no6of g image [] r ∷ []) refl k (sym e) ne

    pub book_8 : usable g (front g image) r ≡ false → book_no g image r d ≡ 8
    unfolding book_no
    book_8 u = halt (ask8 g image [] r) _ (λ h. clash (usable g (front g image) r) h u)

    pub book_18 : usable g (front g image) r ≡ true → edition_of g (front g image) r ≢ d → book_no g image r d ≡ 18
    unfolding book_no
    book_18 u ne = pass (ask8 g image [] r) _ u ∙ halt (ask18 g image [] r d) _ ne

    module _ (b : IsBook g (front g image) r d) where
      pub book_6 : most_book_pages g < pages_of g (front g image) r → book_no g image r d ≡ 6
      unfolding book_no
      book_6 l = pass (ask8 g image [] r) _ b.usable ∙ pass (ask18 g image [] r d) _ b.edition ∙ halt (ask6of g image [] r) _ (λ h. omega arith)

      pub book_0 : pages_of g (front g image) r ≤ most_book_pages g → book_no g image r d ≡ 0
      unfolding book_no
      book_0 l = pass (ask8 g image [] r) _ b.usable ∙ pass (ask18 g image [] r d) _ b.edition ∙ pass (ask6of g image [] r) _ l ∙ first_nil

-- ---- the beginnings with one
module _ (g : Geometry) (image index : List ℕ) where
  abbrev front4 : List Check
  front4 = to4 g image index []

  -- 1, 2, 3
  pub lent_shown : lent_no g image index ≡ 0 → Readable g image × (length index ≡ index_bytes g)
  unfolding lent_no
  lent_shown e =
      let f1 = shown (ask1 g image index) _ (omega arith) e in
      let f2 = shown (ask2 g image index) _ (omega arith) f1.1 in
      let f3 = shown (ask3 g image index) _ (omega arith) f2.1 in
      (record { allowed = f1.0; long = f3.0 }, f2.0)

  pub lent_1 : allowed g ≡ false → lent_no g image index ≡ 1
  unfolding lent_no
  lent_1 a = halt (ask1 g image index) _ (λ A. clash (allowed g) (facts_allowed g A) a)

  module _ (A : Allowed g) where
    pub lent_2 : length index ≢ index_bytes g → lent_no g image index ≡ 2
    unfolding lent_no
    lent_2 ne = pass (ask1 g image index) _ A ∙ halt (ask2 g image index) _ ne

    module _ (i : length index ≡ index_bytes g) where
      pub lent_3 : length image < block_bytes g → lent_no g image index ≡ 3
      unfolding lent_no
      lent_3 l = pass (ask1 g image index) _ A ∙ pass (ask2 g image index) _ i ∙ halt (ask3 g image index) _ (λ h. omega arith)

      pub lent_0 : block_bytes g ≤ length image → lent_no g image index ≡ 0
      unfolding lent_no
      lent_0 l = pass (ask1 g image index) _ A ∙ pass (ask2 g image index) _ i ∙ pass (ask3 g image index) _ l ∙ first_nil

  pass3 : Readable g image → length index ≡ index_bytes g → (later : List Check)
      → first (no1 g image index ∷ no2 g image index ∷ no3 g image index ∷ later) ≡ first later
  pass3 R i later = pass (ask1 g image index) _ R.allowed ∙ pass (ask2 g image index) _ i ∙ pass (ask3 g image index) _ R.long

  -- 1 to 4: 3 and 4 are those of the image alone
  pub indexed_head_1 : allowed g ≡ false → indexed_head_no g image index ≡ 1
  unfolding indexed_head_no
  indexed_head_1 a = halt (ask1 g image index) _ (λ A. clash (allowed g) (facts_allowed g A) a)

  module _ (A : Allowed g) where
    pub indexed_head_2 : length index ≢ index_bytes g → indexed_head_no g image index ≡ 2
    unfolding indexed_head_no
    indexed_head_2 ne = pass (ask1 g image index) _ A ∙ halt (ask2 g image index) _ ne

    pub indexed_head_on : length index ≡ index_bytes g → indexed_head_no g image index ≡ head_no g image
    unfolding indexed_head_no head_no
    indexed_head_on e = pass (ask1 g image index) _ A ∙ pass (ask2 g image index) _ e ∙ sym (pass (ask1 g image []) _ A)

  shown4 : (later : List Check) → first (to4 g image index later) ≡ 0 → Headed g image × (length index ≡ index_bytes g) × (first later ≡ 0)
  shown4 later e =
      let f1 = shown (ask1 g image index) _ (omega arith) e in
      let f2 = shown (ask2 g image index) _ (omega arith) f1.1 in
      let f3 = shown (ask3 g image index) _ (omega arith) f2.1 in
      let f4 = shown (ask4 g image index) _ (omega arith) f3.1 in
      (record { readable = record { allowed = f1.0; long = f3.0 }; header = f4.0 }, f2.0, f4.1)

  pub indexed_head_shown : indexed_head_no g image index ≡ 0 → Headed g image × (length index ≡ index_bytes g)
  unfolding indexed_head_no
  indexed_head_shown e = let p = shown4 [] e in (p.0, p.1)

  pass4 : Headed g image → length index ≡ index_bytes g → (later : List Check) → first (to4 g image index later) ≡ first later
  pass4 H i later =
      pass (ask1 g image index) _ H.readable.allowed ∙ pass (ask2 g image index) _ i ∙ pass (ask3 g image index) _ H.readable.long
      ∙ pass (ask4 g image index) _ H.header

  -- 1 to 5
  pub entered_whole : Entered g image index → Whole g image
  entered_whole E =
      record { headed = record { readable = record { allowed = E.geometry; long = E.long }; header = E.header }; tail = E.tail }

  pub whole_entered : Whole g image → length index ≡ index_bytes g → Entered g image index
  whole_entered W i = record {
    geometry = W.headed.readable.allowed;
    indexed = i;
    long = W.headed.readable.long;
    header = W.headed.header;
    tail = W.tail;
  }

  pass5 : Entered g image index → (later : List Check) → first (to5 g image index later) ≡ first later
  pass5 E later = pass4 (entered_whole E).headed E.indexed (no5 g image index ∷ later) ∙ pass (ask5 g image index) _ E.tail

  shown5 : (later : List Check) → first (to5 g image index later) ≡ 0 → Entered g image index × (first later ≡ 0)
  shown5 later e =
      let p = shown4 (no5 g image index ∷ later) e in
      let f5 = shown (ask5 g image index) _ (omega arith) p.2 in
      (whole_entered (record { headed = p.0; tail = f5.0 }) p.1, f5.1)

  pub entered_shown : entered_no g image index ≡ 0 → Entered g image index
  unfolding entered_no
  entered_shown e = (shown5 [] e).0

  pub entered_stop : (k : ℕ) → k ≡ indexed_head_no g image index → k ≢ 0 → entered_no g image index ≡ k
  unfolding indexed_head_no entered_no
  entered_stop k e ne = first_stop front4 (no5 g image index ∷ []) refl k (sym e) ne

  module _ (H : Headed g image) (i : length index ≡ index_bytes g) where
    pub entered_5 : capacity g (length image) < taken g (front g image) → entered_no g image index ≡ 5
    unfolding entered_no
    entered_5 l = pass4 H i (no5 g image index ∷ []) ∙ halt (ask5 g image index) _ (λ h. omega arith)

    pub entered_0 : taken g (front g image) ≤ capacity g (length image) → entered_no g image index ≡ 0
    unfolding entered_no
    entered_0 l = pass4 H i (no5 g image index ∷ []) ∙ pass (ask5 g image index) _ l ∙ first_nil

  -- checks 1 to 6, and the front as a whole
  pub entered_formed : Entered g image index → Rules g (front g image) → Formed g (capacity g (length image)) (front g image)
  entered_formed E R = formed g image E.geometry (entered_whole E).headed E.tail R

  -- 1 to 7
  pub ordered_entered : Ordered g image index → Entered g image index
  ordered_entered O = record {
    geometry = O.geometry;
    indexed = rw O.recovered (length_index g O.geometry (front g image) O.formed.rules O.formed.header.taken_most);
    long = O.long;
    header = O.formed.header;
    tail = O.formed.tail;
  }

  pass7 : Ordered g image index → (later : List Check) → first (to7 g image index later) ≡ first later
  pass7 O later =
      pass5 (ordered_entered O) (no6 g image index ∷ no7 g image index ∷ later) ∙ pass (ask6 g image index) _ O.formed.rules
      ∙ pass (ask7 g image index) _ O.recovered

  shown7 : (later : List Check) → first (to7 g image index later) ≡ 0 → Ordered g image index × (first later ≡ 0)
  shown7 later e =
      let p = shown5 (no6 g image index ∷ no7 g image index ∷ later) e in
      let f6 = shown (ask6 g image index) _ (omega arith) p.1 in
      let f7 = shown (ask7 g image index) _ (omega arith) f6.1 in
      (record { geometry = p.0.geometry; long = p.0.long; formed = entered_formed p.0 f6.0; recovered = f7.0 }, f7.1)

  pub ordered_shown : ordered_no g image index ≡ 0 → Ordered g image index
  unfolding ordered_no
  ordered_shown e = (shown7 [] e).0

  pub ordered_stop : (k : ℕ) → k ≡ entered_no g image index → k ≢ 0 → ordered_no g image index ≡ k
  unfolding entered_no ordered_no
  ordered_stop k e ne = first_stop (to5 g image index []) (no6 g image index ∷ no7 g image index ∷ []) refl k (sym e) ne

  module _ (E : Entered g image index) where
    pub ordered_6 : in_order g (front g image) ≡ false → ordered_no g image index ≡ 6
    unfolding ordered_no
    ordered_6 e = pass5 E (no6 g image index ∷ no7 g image index ∷ []) ∙ halt (ask6 g image index) _ (λ R. clash (in_order g (front g image)) (rules_order g (front g image) R) e)

    module _ (R : Rules g (front g image)) where
      pub ordered_7 : index ≢ index_of g (front g image) → ordered_no g image index ≡ 7
      unfolding ordered_no
      ordered_7 n = pass5 E (no6 g image index ∷ no7 g image index ∷ []) ∙ pass (ask6 g image index) _ R ∙ halt (ask7 g image index) _ n

      pub ordered_0 : index ≡ index_of g (front g image) → ordered_no g image index ≡ 0
      unfolding ordered_no
      ordered_0 e =
          pass5 E (no6 g image index ∷ no7 g image index ∷ []) ∙ pass (ask6 g image index) _ R ∙ pass (ask7 g image index) _ e ∙ first_nil

-- ---- each call's line: refused by its beginning, refused later, or not
module _ (g : Geometry) (image index : List ℕ) where
  abbrev tables : List ℕ
  tables = front g image

  -- ---- lay: 1, 2, 3, 12
  pub lay_accepted : (v : Version) → refusal g image index (lay v) ≡ 0 → Allowed g × (length index ≡ index_bytes g) × (block_bytes g ≤ length image) × (blank g image ≡ true)
  unfolding checks
  lay_accepted v e =
      let f1 = shown (ask1 g image index) _ (omega arith) e in
      let f2 = shown (ask2 g image index) _ (omega arith) f1.1 in
      let f3 = shown (ask3 g image index) _ (omega arith) f2.1 in
      let f12 = shown (ask12 g image index) _ (omega arith) f3.1 in
      (f1.0, f2.0, f3.0, f12.0)

  pub lay_stop : (v : Version) (k : ℕ) → k ≡ lent_no g image index → k ≢ 0 → refusal g image index (lay v) ≡ k
  unfolding lent_no checks
  lay_stop v k e ne = first_stop (no1 g image index ∷ no2 g image index ∷ no3 g image index ∷ []) (no12 g image index ∷ []) refl k (sym e) ne

  module _ (R : Readable g image) (i : length index ≡ index_bytes g) where
    pub lay_12 : (v : Version) → blank g image ≡ false → refusal g image index (lay v) ≡ 12
    unfolding checks
    lay_12 v b = pass3 g image index R i (no12 g image index ∷ []) ∙ halt (ask12 g image index) _ (λ h. clash (blank g image) h b)

    pub lay_0 : (v : Version) → blank g image ≡ true → refusal g image index (lay v) ≡ 0
    unfolding checks
    lay_0 v b = pass3 g image index R i (no12 g image index ∷ []) ∙ pass (ask12 g image index) _ b ∙ first_nil

  -- ---- a move: 1, 2, 3, 13
  module _ (n : ℕ) where
    pub move_accepted : move_refusal g n image index ≡ 0 → Movable g n image index
    unfolding move_refusal
    move_accepted e =
        let f1 = shown (ask1 g image index) _ (omega arith) e in
        let f2 = shown (ask2 g image index) _ (omega arith) f1.1 in
        let f3 = shown (ask3 g image index) _ (omega arith) f2.1 in
        let f13 = (shown (ask13 g image index n) _ (omega arith) f3.1).0 in
        record { readable = record { allowed = f1.0; long = f3.0 }; indexed = f2.0; whole = f13.0; most = f13.1 }

    pub move_stop : (k : ℕ) → k ≡ lent_no g image index → k ≢ 0 → move_refusal g n image index ≡ k
    unfolding lent_no move_refusal
    move_stop k e ne = first_stop (no1 g image index ∷ no2 g image index ∷ no3 g image index ∷ []) (no13 g n image index ∷ []) refl k (sym e) ne

    -- where the lent bytes are right, 13 is "K below k"
    module _ (R : Readable g image) (i : length index ≡ index_bytes g) where
      pub move_13 : capacity g (length image) < need g n → move_refusal g n image index ≡ 13
      unfolding move_refusal capacity
      move_13 l =
          pass3 g image index R i (no13 g n image index ∷ []) ∙ halt (ask13 g image index n) _ (λ p. omega (arith, p.0, p.1))

      pub move_0 : need g n ≤ capacity g (length image) → move_refusal g n image index ≡ 0
      unfolding move_refusal capacity
      move_0 l =
          let one : 1 ≤ length image / block_bytes g = whole_block g R.allowed (length image) R.long in
          pass3 g image index R i (no13 g n image index ∷ []) ∙ pass (ask13 g image index n) _ (omega arith, omega arith) ∙ first_nil

  -- ---- recover: 1 to 4, 16, 5, 6
  abbrev recovering : List Check
  recovering = no16 g image index ∷ no5 g image index ∷ no6 g image index ∷ []

  pub recover_accepted : refusal g image index recover ≡ 0 → Entered g image index × Rules g (front g image) × (unused_blank g image ≡ true)
  unfolding checks
  recover_accepted e =
      let p = shown4 g image index recovering e in
      let f16 = shown (ask16 g image index) _ (omega arith) p.2 in
      let f5 = shown (ask5 g image index) _ (omega arith) f16.1 in
      let f6 = shown (ask6 g image index) _ (omega arith) f5.1 in
      (whole_entered g image index (record { headed = p.0; tail = f5.0 }) p.1, f6.0, f16.0)

  pub recover_stop : (k : ℕ) → k ≡ indexed_head_no g image index → k ≢ 0 → refusal g image index recover ≡ k
  unfolding indexed_head_no checks
  recover_stop k e ne = first_stop (front4 g image index) recovering refl k (sym e) ne

  module _ (H : Headed g image) (i : length index ≡ index_bytes g) where
    pub recover_16 : unused_blank g image ≡ false → refusal g image index recover ≡ 16
    unfolding checks
    recover_16 b = pass4 g image index H i recovering ∙ halt (ask16 g image index) _ (λ h. clash (unused_blank g image) h b)

    pub recover_5 : unused_blank g image ≡ true → capacity g (length image) < taken g (front g image) → refusal g image index recover ≡ 5
    unfolding checks
    recover_5 b l = pass4 g image index H i recovering ∙ pass (ask16 g image index) _ b ∙ halt (ask5 g image index) _ (λ h. omega arith)

  module _ (E : Entered g image index) (b : unused_blank g image ≡ true) where
    on_6 : refusal g image index recover ≡ first (no6 g image index ∷ [])
    unfolding checks
    on_6 =
        pass4 g image index (entered_whole g image index E).headed E.indexed recovering ∙ pass (ask16 g image index) _ b
        ∙ pass (ask5 g image index) _ E.tail

    pub recover_6 : in_order g (front g image) ≡ false → refusal g image index recover ≡ 6
    recover_6 e = on_6 ∙ halt (ask6 g image index) _ (λ R. clash (in_order g tables) (rules_order g tables R) e)

    pub recover_0 : Rules g (front g image) → refusal g image index recover ≡ 0
    recover_0 R = on_6 ∙ pass (ask6 g image index) _ R ∙ first_nil

  -- the geometry and the index's length once right, it is refused as the image alone says
  pub recover_formed : Allowed g → length index ≡ index_bytes g → (refusal g image index recover ≡ 0) ↔ (well_formed g image ≡ true)
  unfolding checks well_formed
  recover_formed A i =
      let later = pass (ask1 g image index) _ A ∙ pass (ask2 g image index) _ i in
      (λ e. eq-eqb _ _ (sym later ∙ e), λ e. later ∙ eqb-true _ _ e)

  -- and what the index holds does not matter, only how long it is
  pub recover_same : (other : List ℕ) → length index ≡ length other → refusal g image index recover ≡ refusal g image other recover
  unfolding checks
  recover_same other e = rw e

  -- ---- open: 1 to 7, 11
  pub open_accepted : refusal g image index «open» ≡ 0 → Ordered g image index × (next_region g (front g image) < no_region g)
  unfolding checks
  open_accepted e =
      let p = shown7 g image index (no11 g image index ∷ []) e in
      (p.0, (shown (ask11 g image index) _ (omega arith) p.1).0)

  pub open_stop : (k : ℕ) → k ≡ ordered_no g image index → k ≢ 0 → refusal g image index «open» ≡ k
  unfolding ordered_no checks
  open_stop k e ne = first_stop (to7 g image index []) (no11 g image index ∷ []) refl k (sym e) ne

  module _ (O : Ordered g image index) where
    pub open_11 : no_region g ≤ next_region g (front g image) → refusal g image index «open» ≡ 11
    unfolding checks
    open_11 l = pass7 g image index O (no11 g image index ∷ []) ∙ halt (ask11 g image index) _ (λ h. omega arith)

    pub open_0 : next_region g (front g image) < no_region g → refusal g image index «open» ≡ 0
    unfolding checks
    open_0 l = pass7 g image index O (no11 g image index ∷ []) ∙ pass (ask11 g image index) _ l ∙ first_nil

  -- ---- grow: 1 to 8, 18, 10
  module _ (r d n : ℕ) where
    abbrev growing : List Check
    growing = naming g image index r d (no10 g image index r n ∷ [])

    pub grow_accepted : refusal g image index (grow r d n) ≡ 0
        → Ordered g image index × IsBook g (front g image) r d
        × (new_blocks g r n (front g image) ≤ need_of g (front g image) reclaimed + (capacity g (length image) - taken g (front g image)))
    unfolding checks
    grow_accepted e =
        let p = shown7 g image index growing e in
        let f8 = shown (ask8 g image index r) _ (omega arith) p.1 in
        let f18 = shown (ask18 g image index r d) _ (omega arith) f8.1 in
        (p.0, record { usable = f8.0; edition = f18.0 }, (shown (ask10 g image index r n) _ (omega arith) f18.1).0)

    pub grow_stop : (k : ℕ) → k ≡ ordered_no g image index → k ≢ 0 → refusal g image index (grow r d n) ≡ k
    unfolding ordered_no checks
    grow_stop k e ne = first_stop (to7 g image index []) growing refl k (sym e) ne

    module _ (O : Ordered g image index) where
      pub grow_8 : usable g (front g image) r ≡ false → refusal g image index (grow r d n) ≡ 8
      unfolding checks
      grow_8 u = pass7 g image index O growing ∙ halt (ask8 g image index r) _ (λ h. clash (usable g tables r) h u)

      pub grow_18 : usable g (front g image) r ≡ true → edition_of g (front g image) r ≢ d → refusal g image index (grow r d n) ≡ 18
      unfolding checks
      grow_18 u ne = pass7 g image index O growing ∙ pass (ask8 g image index r) _ u ∙ halt (ask18 g image index r d) _ ne

      module _ (b : IsBook g (front g image) r d) where
        on_10 : refusal g image index (grow r d n) ≡ first (no10 g image index r n ∷ [])
        unfolding checks
        on_10 = pass7 g image index O growing ∙ pass (ask8 g image index r) _ b.usable ∙ pass (ask18 g image index r d) _ b.edition

        pub grow_10 : need_of g (front g image) reclaimed + (capacity g (length image) - taken g (front g image)) < new_blocks g r n (front g image)
            → refusal g image index (grow r d n) ≡ 10
        grow_10 l = on_10 ∙ halt (ask10 g image index r n) _ (λ h. omega arith)

        pub grow_0 : new_blocks g r n (front g image) ≤ need_of g (front g image) reclaimed + (capacity g (length image) - taken g (front g image))
            → refusal g image index (grow r d n) ≡ 0
        grow_0 l = on_10 ∙ pass (ask10 g image index r n) _ l ∙ first_nil

  -- ---- release: 1 to 8, 18
  module _ (r d : ℕ) where
    abbrev releasing : List Check
    releasing = no8release g image index r ∷ no18 g image index r d ∷ []

    pub release_accepted : refusal g image index (release r d) ≡ 0 → Ordered g image index × IsBook g (front g image) r d × (fixed_regions ≤ r)
    unfolding checks
    release_accepted e =
        let p = shown7 g image index releasing e in
        let f8 = shown (ask8release g image index r) _ (omega arith) p.1 in
        let f18 = shown (ask18 g image index r d) _ (omega arith) f8.1 in
        let u = f8.0.0 in
        (p.0, record { usable = u; edition = f18.0 }, callable_facts r (usable_facts g tables r u).0 f8.0.1)

    pub release_stop : (k : ℕ) → k ≡ ordered_no g image index → k ≢ 0 → refusal g image index (release r d) ≡ k
    unfolding ordered_no checks
    release_stop k e ne = first_stop (to7 g image index []) releasing refl k (sym e) ne

    module _ (O : Ordered g image index) where
      pub release_8 : ((usable g (front g image) r ≡ true) × (r ≢ 0) → ⊥) → refusal g image index (release r d) ≡ 8
      unfolding checks
      release_8 n = pass7 g image index O releasing ∙ halt (ask8release g image index r) _ n

      module _ (u : usable g (front g image) r ≡ true) (ne : r ≢ 0) where
        on_18 : refusal g image index (release r d) ≡ first (no18 g image index r d ∷ [])
        unfolding checks
        on_18 = pass7 g image index O releasing ∙ pass (ask8release g image index r) _ (u, ne)

        pub release_18 : edition_of g (front g image) r ≢ d → refusal g image index (release r d) ≡ 18
        release_18 e = on_18 ∙ halt (ask18 g image index r d) _ e

        pub release_0 : edition_of g (front g image) r ≡ d → refusal g image index (release r d) ≡ 0
        release_0 e = on_18 ∙ pass (ask18 g image index r d) _ e ∙ first_nil

  -- ---- load, store, look: 1 to 5, 8, 18, 6, 9, 7
  -- the checks see only how many bytes are asked
  pub load_number : (r d o : ℕ) (buffer : List ℕ) → refusal g image index (load r d o buffer) ≡ read_no g image index r d o (length buffer)
  unfolding read_no checks
  load_number r d o buffer = refl

  pub store_number : (r d o : ℕ) (bytes : List ℕ) → refusal g image index (store r d o bytes) ≡ read_no g image index r d o (length bytes)
  unfolding read_no checks
  store_number r d o bytes = refl

  pub look_number : (r d o : ℕ) → refusal g image index (look r d o) ≡ read_no g image index r d o 0
  unfolding read_no checks
  look_number r d o = refl

  module _ (r d o n : ℕ) where
    abbrev last : List Check
    last = no9 g image index r o n ∷ no7of g image index r o n ∷ []

    pub read_accepted : read_no g image index r d o n ≡ 0 → Reads g image index r o n × (edition_of g (front g image) r ≡ d)
    unfolding read_no
    read_accepted e =
        let p = shown5 g image index (of_book g image index r d last) e in
        let f8 = shown (ask8 g image index r) _ (omega arith) p.1 in
        let f18 = shown (ask18 g image index r d) _ (omega arith) f8.1 in
        let f6 = shown (ask6of g image index r) _ (omega arith) f18.1 in
        let f9 = shown (ask9 g image index r o n) _ (omega arith) f6.1 in
        let f7 = shown (ask7of g image index r o n) _ (omega arith) f9.1 in
        (record { entered = p.0; usable = f8.0; fits = f6.0; within = f9.0; right = f7.0 }, f18.0)

    pub read_stop : (k : ℕ) → k ≡ entered_no g image index → k ≢ 0 → read_no g image index r d o n ≡ k
    unfolding entered_no read_no
    read_stop k e ne = first_stop (to5 g image index []) (of_book g image index r d last) refl k (sym e) ne

    module _ (E : Entered g image index) where
      pub read_book : (k : ℕ) → k ≡ book_no g image r d → k ≢ 0 → read_no g image index r d o n ≡ k
      unfolding book_no read_no
      read_book k e ne = pass5 g image index E (of_book g image index r d last) ∙ first_stop (of_book g image [] r d []) last refl k (sym e) ne

      module _ (b : IsBook g (front g image) r d) (f : pages_of g (front g image) r ≤ most_book_pages g) where
        on_last : read_no g image index r d o n ≡ first last
        unfolding read_no
        on_last =
            pass5 g image index E (of_book g image index r d last) ∙ pass (ask8 g image index r) _ b.usable
            ∙ pass (ask18 g image index r d) _ b.edition ∙ pass (ask6of g image index r) _ f

        pub read_9 : pages_of g (front g image) r * g.page < o + n → read_no g image index r d o n ≡ 9
        read_9 l = on_last ∙ halt (ask9 g image index r o n) _ (λ h. omega arith)

        pub read_7 : o + n ≤ pages_of g (front g image) r * g.page → touched_right g (front g image) index r o n ≡ false → read_no g image index r d o n ≡ 7
        read_7 l e =
            on_last ∙ pass (ask9 g image index r o n) _ l
            ∙ halt (ask7of g image index r o n) _ (λ h. clash (touched_right g (front g image) index r o n) h e)

    pub read_8 : Entered g image index → usable g (front g image) r ≡ false → read_no g image index r d o n ≡ 8
    read_8 E u = read_book E 8 (sym (book_8 g image r d u)) (omega arith)

    pub read_18 : Entered g image index → usable g (front g image) r ≡ true → edition_of g (front g image) r ≢ d → read_no g image index r d o n ≡ 18
    read_18 E u ne = read_book E 18 (sym (book_18 g image r d u ne)) (omega arith)

    pub read_0 : Reads g image index r o n → edition_of g (front g image) r ≡ d → read_no g image index r d o n ≡ 0
    read_0 F e =
        on_last F.entered (record { usable = F.usable; edition = e }) F.fits ∙ pass (ask9 g image index r o n) _ F.within ∙ pass (ask7of g image index r o n) _ F.right
        ∙ first_nil

  module _ (r d o : ℕ) (xs : List ℕ) where
    pub load_accepted : refusal g image index (load r d o xs) ≡ 0 → Reads g image index r o (length xs) × (edition_of g (front g image) r ≡ d)
    load_accepted e = read_accepted r d o (length xs) (sym (load_number r d o xs) ∙ e)

    pub accepts_load : Reads g image index r o (length xs) → edition_of g (front g image) r ≡ d → refusal g image index (load r d o xs) ≡ 0
    accepts_load F e = load_number r d o xs ∙ read_0 r d o (length xs) F e

    pub store_accepted : refusal g image index (store r d o xs) ≡ 0 → Reads g image index r o (length xs) × (edition_of g (front g image) r ≡ d)
    store_accepted e = read_accepted r d o (length xs) (sym (store_number r d o xs) ∙ e)

    pub accepts_store : Reads g image index r o (length xs) → edition_of g (front g image) r ≡ d → refusal g image index (store r d o xs) ≡ 0
    accepts_store F e = store_number r d o xs ∙ read_0 r d o (length xs) F e

  -- ---- size: 1, 3, 4, 5, 8, 18, 6
  module _ (r d : ℕ) where
    abbrev sizing : List Check
    sizing = no1 g image [] ∷ no3 g image [] ∷ no4 g image [] ∷ no5 g image [] ∷ []

    pub size_stop : (k : ℕ) → k ≡ whole_no g image → k ≢ 0 → refusal g image index (size r d) ≡ k
    unfolding whole_no checks
    size_stop k e ne = first_stop sizing (of_book g image [] r d []) refl k (sym e) ne

    pub size_on : Whole g image → refusal g image index (size r d) ≡ book_no g image r d
    unfolding book_no checks
    size_on W = whole_line g image (no5 g image [] ∷ of_book g image [] r d []) W.headed ∙ pass (ask5 g image []) _ W.tail

    pub size_accepted : refusal g image index (size r d) ≡ 0
        → Whole g image × IsBook g (front g image) r d × (pages_of g (front g image) r ≤ most_book_pages g)
    unfolding checks
    size_accepted e =
        let f1 = shown (ask1 g image []) _ (omega arith) e in
        let f3 = shown (ask3 g image []) _ (omega arith) f1.1 in
        let f4 = shown (ask4 g image []) _ (omega arith) f3.1 in
        let f5 = shown (ask5 g image []) _ (omega arith) f4.1 in
        let f8 = shown (ask8 g image [] r) _ (omega arith) f5.1 in
        let f18 = shown (ask18 g image [] r d) _ (omega arith) f8.1 in (
          record { headed = record { readable = record { allowed = f1.0; long = f3.0 }; header = f4.0 }; tail = f5.0 },
          record { usable = f8.0; edition = f18.0 },
          (shown (ask6of g image [] r) _ (omega arith) f18.1).0,
        )

-- lay's look at the header is one at the front
blank_front : (g : Geometry) (image : List ℕ) → blank g image ≡ blank g (front g image)
unfolding blank
blank_front g image =
    all_ext header_bytes (λ i. eqb (get_or image i 0) 0) (λ i. eqb (get_or (front g image) i 0) 0)
    (λ i h. rw (get_or-take (front_bytes g) image i 0 (omega arith)))

-- the checks of every call but recovery see of the image its front and its length
pub line_same : (g : Geometry) (image later index : List ℕ) (c : Call) → inspects c ≡ false → length image ≡ length later → front g image ≡ front g later
    → refusal g later index c ≡ refusal g image index c
unfolding checks
line_same g image later index (lay v) ne l f =
    let same : blank g later ≡ blank g image = blank_front g later ∙ rw (← f) (sym (blank_front g image)) in
    rw (l, same)
line_same g image later index «open» ne l f = rw (l, f)
line_same g image later index (grow r d n) ne l f = rw (l, f)
line_same g image later index (load r d o b) ne l f = rw (l, f)
line_same g image later index (store r d o b) ne l f = rw (l, f)
line_same g image later index (look r d o) ne l f = rw (l, f)
line_same g image later index (size r d) ne l f = rw (l, f)
line_same g image later index (release r d) ne l f = rw (l, f)
line_same g image later index recover ne l f = clash true refl ne

pub load_same : (g : Geometry) (image later index : List ℕ) (r d o : ℕ) (xs : List ℕ) → length image ≡ length later → front g image ≡ front g later
    → refusal g later index (load r d o xs) ≡ refusal g image index (load r d o xs)
load_same g image later index r d o xs l f = line_same g image later index (load r d o xs) refl l f

-- the checks of size see the image alone
pub size_alone : (g : Geometry) (image index other : List ℕ) (r d : ℕ) → refusal g image index (size r d) ≡ refusal g image other (size r d)
unfolding checks
size_alone g image index other r d = refl

-- every line begins with 1
pub refused_1 : (g : Geometry) (image index : List ℕ) → allowed g ≡ false → (c : Call) → refusal g image index c ≡ 1
unfolding checks
refused_1 g image index a (lay v) = halt (ask1 g image index) _ (λ A. clash (allowed g) (facts_allowed g A) a)
refused_1 g image index a «open» = halt (ask1 g image index) _ (λ A. clash (allowed g) (facts_allowed g A) a)
refused_1 g image index a (grow r d n) = halt (ask1 g image index) _ (λ A. clash (allowed g) (facts_allowed g A) a)
refused_1 g image index a (load r d o b) = halt (ask1 g image index) _ (λ A. clash (allowed g) (facts_allowed g A) a)
refused_1 g image index a (store r d o b) = halt (ask1 g image index) _ (λ A. clash (allowed g) (facts_allowed g A) a)
refused_1 g image index a (look r d o) = halt (ask1 g image index) _ (λ A. clash (allowed g) (facts_allowed g A) a)
refused_1 g image index a (size r d) = halt (ask1 g image index) _ (λ A. clash (allowed g) (facts_allowed g A) a)
refused_1 g image index a (release r d) = halt (ask1 g image index) _ (λ A. clash (allowed g) (facts_allowed g A) a)
refused_1 g image index a recover = halt (ask1 g image index) _ (λ A. clash (allowed g) (facts_allowed g A) a)

-- ---- a call is refused with k exactly where the checks before k's pass and its test refuses
line_distinct : (g : Geometry) (image index : List ℕ) (c : Call) → distinct (checks g image index c) ≡ true
unfolding checks
line_distinct g image index (lay v) = refl
line_distinct g image index «open» = refl
line_distinct g image index (grow r d n) = refl
line_distinct g image index (load r d o b) = refl
line_distinct g image index (store r d o b) = refl
line_distinct g image index (look r d o) = refl
line_distinct g image index (size r d) = refl
line_distinct g image index (release r d) = refl
line_distinct g image index recover = refl

pub refused_exactly : (g : Geometry) (image index : List ℕ) (c : Call) (cs : List Check) (d : Check) (ds : List Check)
    → checks g image index c ≡ cs ++ (d ∷ ds) → (refusal g image index c ≡ d.no) ↔ ((first cs ≡ 0) × (d.refuses ≡ true))
refused_exactly g image index c cs d ds line = rw line (first_exactly cs d ds (rw line at (line_distinct g image index c)))

-- ---- what a refused call leaves, and each call when it is done
module _ (g : Geometry) (c : Call) (s : State) where
  pub outcome_done : refusal g s.image s.index c ≡ 0 → outcome g c s ≡ accepted g c s
  unfolding outcome
  outcome_done e = rw e

  pub refused : (k : ℕ) → refusal g s.image s.index c ≡ k → k ≢ 0 → outcome g c s ≡ gives (Refused k) (buffer g c) s
  unfolding outcome
  refused k e ne = rw (e, ne_eqb k 0 ne)

-- a move refused, and one that is done
module _ (g : Geometry) (n : ℕ) (s : State) where
  pub move_done : move_refusal g n s.image s.index ≡ 0
      → move_outcome g n s ≡ gives (Done 0) [] (lent (moved_image g n s.image) (index_of g (moved_front g Two n)))
  unfolding move_outcome
  move_done e = rw e

  pub move_refused : (k : ℕ) → move_refusal g n s.image s.index ≡ k → k ≢ 0 → move_outcome g n s ≡ gives (Refused k) [] s
  unfolding move_outcome
  move_refused k e ne = rw (e, ne_eqb k 0 ne)

  pub move_number : number_of (move_outcome g n s).answer ≡ move_refusal g n s.image s.index
  move_number = go (ℕ_discrete (move_refusal g n s.image s.index) 0)
    where
      go : Dec (move_refusal g n s.image s.index ≡ 0) → number_of (move_outcome g n s).answer ≡ move_refusal g n s.image s.index
      go (yes e) = rw (move_done e) (sym e)
      go (no ne) = rw (move_refused (move_refusal g n s.image s.index) refl ne)

module _ (g : Geometry) (s : State) where
  pub lay_done : (v : Version) → refusal g s.image s.index (lay v) ≡ 0
      → outcome g (lay v) s ≡ gives (Done 0) [] (lent (laid g v ++ rest g (blanked g s.image)) (empty_index g))
  unfolding accepted
  lay_done v e = outcome_done g (lay v) s e

  pub recover_done : refusal g s.image s.index recover ≡ 0
      → outcome g recover s ≡ gives (Done 0) [] (lent s.image (index_of g (front g s.image)))
  unfolding accepted
  recover_done e = outcome_done g recover s e

  pub open_done : refusal g s.image s.index «open» ≡ 0
      → outcome g «open» s ≡ gives (opening (next_region g (front g s.image)) (edition_of g (front g s.image) (next_region g (front g s.image)))) []
      (tabled g (opened g (front g s.image)) s.image)
  unfolding accepted
  open_done e = outcome_done g «open» s e

  pub grow_done : (r d n : ℕ) → refusal g s.image s.index (grow r d n) ≡ 0
      → outcome g (grow r d n) s
      ≡ gives (Done (pages_of g (front g s.image) r)) [] (lent (grown g r n s.image) (index_of g (front g (grown g r n s.image))))
  unfolding accepted
  grow_done r d n e = outcome_done g (grow r d n) s e

  pub release_done : (r d : ℕ) → refusal g s.image s.index (release r d) ≡ 0
      → outcome g (release r d) s ≡ gives (Done 0) [] (tabled g (released g r (front g s.image)) s.image)
  unfolding accepted
  release_done r d e = outcome_done g (release r d) s e

  pub load_done : (r d o : ℕ) (b : List ℕ) → refusal g s.image s.index (load r d o b) ≡ 0
      → outcome g (load r d o b) s ≡ gives (Done 0) (loaded g (block_in g s.index r) o (length b) s.image) s
  unfolding accepted
  load_done r d o b e = outcome_done g (load r d o b) s e

  pub store_done : (r d o : ℕ) (ys : List ℕ) → refusal g s.image s.index (store r d o ys) ≡ 0
      → outcome g (store r d o ys) s
      ≡ gives (Done 0) [] (lent (stored g (block_in g s.index r) (need_of g (front g s.image) r) o ys s.image) s.index)
  unfolding accepted
  store_done r d o ys e = outcome_done g (store r d o ys) s e

  pub size_done : (r d : ℕ) → refusal g s.image s.index (size r d) ≡ 0 → outcome g (size r d) s ≡ gives (Done (pages_of g (front g s.image) r)) [] s
  unfolding accepted
  size_done r d e = outcome_done g (size r d) s e

  -- look's part, unless the offset is the end or a load of one byte would be refused
  pub look_done : (r d o : ℕ) → refusal g s.image s.index (look r d o) ≡ 0
      → outcome g (look r d o) s
      ≡ gives (Done 0)
      (cond (eqb o (pages_of g (front g s.image) r * g.page) || not (eqb (read_no g s.image s.index r d o 1) 0)) []
      (loaded g (block_in g s.index r) o (look_bytes g (front g s.image) r o) s.image))
      s
  unfolding accepted read_no checks
  look_done r d o e = outcome_done g (look r d o) s e

-- the answer of an accepted call: "done", and the paper's number, value and edition of its case
pub accepted_paper : (g : Geometry) (c : Call) (s : State)
    → ((accepted g c s).number ≡ number_of (accepted g c s).answer) × ((accepted g c s).value ≡ value_of (accepted g c s).answer)
    × ((accepted g c s).edition ≡ edition_in (accepted g c s).answer)
unfolding accepted
accepted_paper g (lay v) s = (refl, refl, refl)
accepted_paper g «open» s = (refl, refl, refl)
accepted_paper g (grow r d n) s = (refl, refl, refl)
accepted_paper g (load r d o b) s = (refl, refl, refl)
accepted_paper g (store r d o b) s = (refl, refl, refl)
accepted_paper g (look r d o) s = (refl, refl, refl)
accepted_paper g (size r d) s = (refl, refl, refl)
accepted_paper g (release r d) s = (refl, refl, refl)
accepted_paper g recover s = (refl, refl, refl)

pub accepted_number : (g : Geometry) (c : Call) (s : State) → (accepted g c s).number ≡ 0
unfolding accepted
accepted_number g (lay v) s = refl
accepted_number g «open» s = refl
accepted_number g (grow r d n) s = refl
accepted_number g (load r d o b) s = refl
accepted_number g (store r d o b) s = refl
accepted_number g (look r d o) s = refl
accepted_number g (size r d) s = refl
accepted_number g (release r d) s = refl
accepted_number g recover s = refl

-- only an open gives a book
not_opened : {A : Type 0} (v r e : ℕ) → Done v ≡ opening r e → A
not_opened v r e d = let z : ◌≡◌ {A = ℕ} 0 1 = cc in absurd (omega arith)

accepted_opens : (g : Geometry) (c : Call) (s : State) (r e : ℕ) → (accepted g c s).answer ≡ opening r e → c ≡ «open»
unfolding accepted
accepted_opens g (lay v) s r e d = not_opened 0 r e d
accepted_opens g «open» s r e d = refl
accepted_opens g (grow q x n) s r e d = not_opened _ r e d
accepted_opens g (load q x o b) s r e d = not_opened 0 r e d
accepted_opens g (store q x o b) s r e d = not_opened 0 r e d
accepted_opens g (look q x o) s r e d = not_opened 0 r e d
accepted_opens g (size q x) s r e d = not_opened _ r e d
accepted_opens g (release q x) s r e d = not_opened 0 r e d
accepted_opens g recover s r e d = not_opened 0 r e d

pub only_open : (g : Geometry) (c : Call) (s : State) (r e : ℕ) → (outcome g c s).answer ≡ opening r e → c ≡ «open»
only_open g c s r e d = go (ℕ_discrete (refusal g s.image s.index c) 0)
  where
    go : Dec (refusal g s.image s.index c ≡ 0) → c ≡ «open»
    go (yes z) = accepted_opens g c s r e (sym (ap (λ o. o.answer) (outcome_done g c s z)) ∙ d)
    go (no ne) =
        let k = refusal g s.image s.index c in
        let z : Refused k ≡ opening r e = sym (ap (λ o. o.answer) (refused g c s k refl ne)) ∙ d in
        let w : ◌≡◌ {A = ℕ} 0 1 = cc in
        absurd (omega arith)
