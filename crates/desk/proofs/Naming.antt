-- What a header that is right shows; and 8 and 18, the checks of a book's name: that each line with them refuses as they do.
use Rattle.std.specs.Prelude.{ℕ, ◌≡◌, ◌≢◌, Bool, true, false, List}
use Rattle.std.proofs.Common.{refl, sym, ◌∙◌}
use native.Mathlib.Decide.{ℕ_discrete}
use Rattle.laws.proofs.Tests.{clash}
use Rattle.paper.specs.declared.Geometry.{Geometry}
use Rattle.paper.specs.Image.{front, edition_of}
use Rattle.paper.specs.Calls.{grow, release}
use Rattle.paper.specs.Refusals.{header_right, usable, refusal}
use Rattle.rules.specs.Facts.{Readable, Header, Ordered}
use Rattle.rules.specs.Lines.{name_no}
use Rattle.rules.proofs.Lines.{head_shown, head_0, name_8, name_18, name_0, grow_8, grow_18, release_8, release_18}

pub header_seen : (g : Geometry) (image : List ℕ) → Readable g image → header_right g (front g image) ≡ true → Header g (front g image)
header_seen g image R h = (head_shown g image (head_0 g image R h)).header

module _ (g : Geometry) (image : List ℕ) (r d : ℕ) where
  -- the two, where a line answers them after others
  module _ {y : ℕ} (at_8 : usable g (front g image) r ≡ false → y ≡ 8) (at_18 : usable g (front g image) r ≡ true → edition_of g (front g image) r ≢ d → y ≡ 18) where
    named : (k : ℕ) → k ≡ name_no g image r d → k ≢ 0 → y ≡ k
    named k e ne = by_use (usable g (front g image) r) refl
      where
        by_edition : usable g (front g image) r ≡ true → Dec (edition_of g (front g image) r ≡ d) → y ≡ k
        by_edition u (yes z) = absurd (ne (e ∙ name_0 g image r d (record { usable = u; edition = z })))
        by_edition u (no n) = at_18 u n ∙ sym (e ∙ name_18 g image r d u n)

        by_use : (b : Bool) → usable g (front g image) r ≡ b → y ≡ k
        by_use true u = by_edition u (ℕ_discrete (edition_of g (front g image) r) d)
        by_use false u = at_8 u ∙ sym (e ∙ name_8 g image r d u)

  module _ (index : List ℕ) (O : Ordered g image index) where
    pub grow_named : (n k : ℕ) → k ≡ name_no g image r d → k ≢ 0 → refusal g image index (grow r d n) ≡ k
    grow_named n = named (grow_8 g image index r d n O) (grow_18 g image index r d n O)

    pub release_named : r ≢ 0 → (k : ℕ) → k ≡ name_no g image r d → k ≢ 0 → refusal g image index (release r d) ≡ k
    release_named r0 =
        named (λ u. release_8 g image index r d O (λ p. clash (usable g (front g image) r) p.0 u)) (λ u ne. release_18 g image index r d O u r0 ne)
