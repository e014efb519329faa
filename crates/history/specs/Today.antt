-- Document 01's demand 3 as it stood, of version 2, which keeps today's rules (02, R-12): the clerk knows no editions, and lists a book by its
-- region alone. Where a call or a book has an edition, it is 0.
use Rattle.std.specs.Prelude.{ℕ, ◌≤◌, ◌<◌, true, false, ◌≢◌, ◌≡◌, List, [], ◌∷◌, length}
use Rattle.paper.specs.declared.Geometry.{Geometry}
use Rattle.paper.specs.Answers.{Answer, Done, Opened, Refused}
use Rattle.paper.specs.declared.Version.TheVariants.{Two}
use Rattle.paper.specs.Geometry.{version2, fixed_regions, no_region, index_bytes}
use Rattle.paper.specs.Image.{front, version_of}
use Rattle.paper.specs.Calls.{Call, lay, «open», grow, load, store, look, size, release, recover}
use Rattle.paper.specs.Outcomes.{State, lent, Outcome, gives, opening, outcome}
use Rattle.paper.specs.Refusals.{callable}
use Rattle.history.specs.History.{absent, holding, Books, having, longer, written, fresh_books, found, Shown, Hidden}

module _ (g : Geometry) where
  -- what becomes of the books by a call and its answer
  unfoldable pub jotted : Call → Answer → Books → Books
  jotted c (Refused k) books = books
  jotted c (Opened r e) books = having r.0 (holding 0 []) books
  jotted (lay v) (Done n) books = fresh_books g
  jotted «open» (Done n) books = books
  jotted (grow r e n) (Done v) books = having r (longer g 0 n (books r)) books
  jotted (load r e o buffer) (Done v) books = books
  jotted (store r e o bytes) (Done v) books = having r (written g 0 o bytes (books r)) books
  jotted (look r e o) (Done v) books = books
  jotted (size r e) (Done v) books = books
  jotted (release r e) (Done v) books = having r absent books
  jotted recover (Done v) books = books

  -- calls one after the other: what they leave, and the books
  unfoldable pub left : List Call → State → State
  left [] s = s
  left (c ∷ cs) s = left cs (outcome g c s).state

  unfoldable pub listed : List Call → State → Books → Books
  listed [] s books = books
  listed (c ∷ cs) s books = listed cs (outcome g c s).state (jotted c (outcome g c s).answer books)

  pub record AgreesToday (bytes : ℕ) (s : State) (books : Books) : Type 0 where
    -- the image keeps its length, and the index can be thrown away
    pub as_long : length s.image ≡ bytes
    pub recovers : (junk : List ℕ) → length junk ≡ index_bytes g → outcome g recover (lent s.image junk) ≡ gives (Done 0) [] s
    -- each book of the caller's on the list is seen as the list has it, and no other is seen
    pub shown : (r : ℕ) (xs : List ℕ) → callable r ≡ true → books r ≡ holding 0 xs → Shown g s books r 0 xs
    pub gone : (r : ℕ) → books r ≡ absent → Hidden g 8 s r 0
    pub kept_back : (r : ℕ) → callable r ≡ false → Hidden g 8 s r 0
    -- an open that is done gives a number that the list does not have
    pub opens : (v e : ℕ) → (outcome g «open» s).answer ≡ opening v e → (fixed_regions ≤ v) × (v < no_region g) × (books v ≡ absent) × (e ≡ 0)
    -- and it is refused, with 11, exactly when the list has every book from 16 to E-2
    pub opens_not : ((r : ℕ) → fixed_regions ≤ r → r < no_region g → books r ≢ absent) → (outcome g «open» s).answer ≡ Refused 11
    pub opens_some : (r : ℕ) → fixed_regions ≤ r → r < no_region g → books r ≡ absent → (v : ℕ) × ((outcome g «open» s).answer ≡ opening v 0)
    -- a laid image is not laid again
    pub lays_not : (outcome g (lay Two) s).answer ≡ Refused 12

  -- after a lay of version 2 and any calls, those that name another edition than 0 among them
  unfoldable pub Demand3Today : Type 0
  Demand3Today =
      (s : State) (o : Outcome) → o ≡ outcome g (lay Two) s → o.answer ≡ Done 0
      → (cs : List Call) → AgreesToday (length s.image) (left cs o.state) (listed cs o.state (fresh_books g))

  -- or after recovery of an image of version 2
  unfoldable pub TodayRecovered : Type 0
  TodayRecovered =
      (s : State) (o : Outcome) → o ≡ outcome g recover s → o.answer ≡ Done 0 → version_of g (front g s.image) ≡ version2
      → (cs : List Call) → AgreesToday (length s.image) (left cs o.state) (listed cs o.state (found g s.image))
