-- A release, block by block: what it has not come to stands as it was, and each position in region 1 is one of a block.
use Prim.Native.Nat.{ℕ, zero, suc, ◌+◌, ◌≤◌, ◌<◌}
use mathlib.Core.Path.{◌≡◌, refl, ◌∙◌}
use mathlib.Core.List.{List}
use native.Mathlib.Omega.{arith}
use native.Mathlib.Decide.{ℕ_discrete}
use borrow.Author.Tests.{eq-eqb, ne_eqb}
use lib.ListN.{length}
use Rattle.laws.specs.Folds.{steps}
use Rattle.paper.specs.declared.Geometry.{Geometry}
use Rattle.paper.specs.Geometry.{reclaimed, Allowed, front_bytes}
use Rattle.paper.specs.Image.{taken, owner, place, edition_of, need_of, set_pages}
use Rattle.rules.proofs.Facts.{open_below}
use Rattle.rules.proofs.Counting.{needs_taken}
use Rattle.rules.proofs.Cells.{length-set_entry, owner-set_entry_other, place-set_entry_other, edition_set_entry}
use Rattle.keeping.proofs.Writes.{pages_editions}
use Rattle.tables.specs.Steps.{Releasable}
use Rattle.paper.specs.Calls.{reclaiming}

-- u is t but for entries below block n
pub record Later (g : Geometry) (t : List ℕ) (n : ℕ) (u : List ℕ) : Type 0 where
  pub long : length u ≡ length t
  pub owners : (a : ℕ) → n ≤ a → owner g u a ≡ owner g t a
  pub places : (a : ℕ) → n ≤ a → place g u a ≡ place g t a
  pub editions : (q : ℕ) → edition_of g u q ≡ edition_of g t q

module _ (g : Geometry) (t : List ℕ) (fits : front_bytes g ≤ length t) (r k : ℕ) where
  pub later : (n : ℕ) → n ≤ g.blocks → Later g t n (steps n (reclaiming g t r k) t)
  unfolding steps
  later zero h = record { long = refl; owners = λ a l. refl; places = λ a l. refl; editions = λ q. refl }
  later (suc n) h = go (later n (omega arith)) (ℕ_discrete (owner g t n) r)
    where
      u : List ℕ
      u = steps n (reclaiming g t r k) t

      go : Later g t n u → Dec (owner g t n ≡ r) → Later g t (suc n) (reclaiming g t r k n u)
      go L (no ne) =
          rw (ne_eqb _ _ ne) (record {
            long = L.long;
            owners = λ a l. L.owners a (omega arith);
            places = λ a l. L.places a (omega arith);
            editions = L.editions;
          })
      go L (yes e) =
          let f : front_bytes g ≤ length u = omega (arith, L.long) in
          let p = k + place g t n in
          rw (eq-eqb _ _ e) (record {
            long = length-set_entry g u f n reclaimed p h ∙ L.long;
            owners = λ a l. owner-set_entry_other g u f n reclaimed p h a (λ z. omega arith) ∙ L.owners a (omega arith);
            places = λ a l. place-set_entry_other g u f n reclaimed p h a (λ z. omega arith) ∙ L.places a (omega arith);
            editions = λ q. edition_set_entry g u f n reclaimed p h q ∙ L.editions q;
          })

-- until the last write no edition changes
pub editions_kept : (g : Geometry) (t : List ℕ) → length t ≡ front_bytes g → Allowed g → (r k n m : ℕ) → m ≤ g.blocks → (q : ℕ)
    → edition_of g (set_pages g reclaimed n (steps m (reclaiming g t r k) t)) q ≡ edition_of g t q
editions_kept g t full A r k n m h q =
    let L = later g t (omega arith) r k m h in
    pages_editions g (steps m (reclaiming g t r k) t) (L.long ∙ full) reclaimed n (omega (arith, A.entries_least)) q ∙ L.editions q

-- region 1 and the book together hold no more blocks than are taken
pub both_fit : (g : Geometry) (t : List ℕ) (r : ℕ) → Allowed g → Releasable g t r → need_of g t reclaimed + need_of g t r ≤ g.blocks
both_fit g t r A R =
    omega (arith, R.bound, needs_taken g t R.rules reclaimed r (omega (arith, R.least)) (omega (arith, A.entries_least)) (open_below g t r R.opened))

pub place_fits : (g : Geometry) (t : List ℕ) (r : ℕ) → Allowed g → Releasable g t r → (b : ℕ) → b < taken g t → owner g t b ≡ r
    → need_of g t reclaimed + place g t b < g.blocks
place_fits g t r A R b l e = omega (arith, both_fit g t r A R, rw e at (R.rules.named b l))
