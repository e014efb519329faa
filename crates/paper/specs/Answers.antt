-- What a call answers, as the paper says it; and how the Result that a call gives back says it.
use Rattle.std.specs.Prelude.{ℕ, Result, Ok, Err}
use Rattle.paper.specs.declared.Pages.{Pages}
use Rattle.paper.specs.declared.Region.{Region}
use Rattle.paper.specs.declared.Edition.{Edition}
use Rattle.paper.specs.declared.Book.{Book}
use Rattle.paper.specs.declared.Refusal.{Refusal}
use Rattle.paper.specs.declared.Refusal.TheVariants.{GeometryWrong, IndexLength, ImageShort, HeaderWrong, TailMissing, TablesWrong, IndexWrong, Unusable, Beyond, NoRoom, NoRegion, NotBlank, TooFewBlocks, Newer, Stale}

-- done, with its value; opened, with the region and edition of the book; or the number of the refusal
pub data Answer : Type 0 where
  Done : ℕ → Answer
  Opened : Region → Edition → Answer
  Refused : ℕ → Answer

-- the table's numbers of the refusals
abbrev pub no_of : Refusal → ℕ
no_of GeometryWrong = 1
no_of IndexLength = 2
no_of ImageShort = 3
no_of HeaderWrong = 4
no_of TailMissing = 5
no_of TablesWrong = 6
no_of IndexWrong = 7
no_of Unusable = 8
no_of Beyond = 9
no_of NoRoom = 10
no_of NoRegion = 11
no_of NotBlank = 12
no_of TooFewBlocks = 13
no_of Newer = 16
no_of Stale = 18

-- the number that a Result says: 0 is done
abbrev pub no_in : {A : Type 0} → Result A Refusal → ℕ
no_in (Ok x) = 0
no_in (Err k) = no_of k

-- the answer that it says, where `done` is what the paper has for its value
abbrev pub answered : {A : Type 0} → (A → Answer) → Result A Refusal → Answer
answered done (Ok x) = done x
answered done (Err k) = Refused (no_of k)

-- no value: 0
abbrev pub plain : Unit {0} → Answer
plain x = Done 0

-- a page count
abbrev pub counted : Pages → Answer
counted n = Done n.0

-- the book that was opened
abbrev pub opened_as : Book → Answer
opened_as b = Opened b.region b.edition
