-- "Script program": what a record asks, what its line says, and how it leaves image and index. Reading records and printing lines stay
-- outside: no definition speaks of them.
use Rattle.std.specs.Prelude.{ℕ, cond, List, [], ◌∷◌, eqb, ltb, ℤ, get_or, length, replicate}
use Rattle.laws.specs.Bytes.{num}
use Rattle.laws.specs.Folds.{sum_below}
use Rattle.paper.specs.Answers.{Answer, Done, Opened, Refused}
use Rattle.paper.specs.declared.Version.TheVariants.{Two}
use Rattle.paper.specs.Geometry.{bench}
use Rattle.paper.specs.Calls.{Call, lay, «open», grow, load, store, look, size, release, recover}
use Rattle.paper.specs.Outcomes.{number_of, value_of, State, Outcome, outcome}
use Rattle.paper.specs.Bench.{zeroed}

-- it lends a zeroed image of 8,704 bytes and lays it in BENCH, in version 2, whose books have edition 0 only
abbrev pub script_start : State
script_start = (outcome bench (lay Two) zeroed).state

-- ---- records of 16 bytes, no header
abbrev pub record_bytes : ℕ
record_bytes = 16

-- operation, fill byte, region (2), length (4), number (8: pages or offset)
abbrev pub operation_in : List ℕ → ℕ
operation_in r = num 1 r 0

abbrev pub fill_in : List ℕ → ℕ
fill_in r = num 1 r 1

abbrev pub region_in : List ℕ → ℕ
region_in r = num 2 r 2

abbrev pub length_in : List ℕ → ℕ
length_in r = num 4 r 4

abbrev pub number_in : List ℕ → ℕ
number_in r = num 8 r 8

-- operation (1 open, 2 grow, 3 store, 4 load, 5 release, 6 size, 7 recover)
pub record Operation : Type 0 where
  pub no : ℕ
  pub call : Call

infix 70 ◌makes◌
abbrev pub ◌makes◌ : ℕ → Call → Operation
◌makes◌ k c = record { no = k; call = c }

-- a store writes the fill byte length times. What a load's buffer held has no influence on what is told, for the loaded bytes replace it
-- (rules/proofs/Script: buffer_replaced), so zeros are lent
abbrev pub operations : List ℕ → List Operation
operations r =
    1 makes «open»
    ∷ 2 makes grow (region_in r) 0 (number_in r)
    ∷ 3 makes store (region_in r) 0 (number_in r) (replicate (length_in r) (fill_in r))
    ∷ 4 makes load (region_in r) 0 (number_in r) (replicate (length_in r) 0)
    ∷ 5 makes release (region_in r) 0
    ∷ 6 makes size (region_in r) 0
    ∷ 7 makes recover
    ∷ []

-- ---- each record gives one line: refusal, space, value
pub record Line : Type 0 where
  pub number : ℕ
  pub value : ℤ

abbrev pub line_of : Answer → Line
line_of a = record { number = number_of a; value = value_of a }

-- all that can be seen of a record: its line, and what is left
pub record Told : Type 0 where
  pub line : Line
  pub state : State

abbrev pub tells : Answer → State → Told
tells a s = record { line = line_of a; state = s }

-- a load answers the sum of its bytes, every other call its own value
unfoldable pub sum_of : List ℕ → ℕ
sum_of bytes = sum_below (length bytes) (λ i. get_or bytes i 0)

abbrev pub summed : List ℕ → Answer → Answer
summed bytes (Done v) = Done (sum_of bytes)
summed bytes (Opened r e) = Opened r e
summed bytes (Refused k) = Refused k

abbrev pub answer_of : Call → Outcome → Answer
answer_of (lay v) o = o.answer
answer_of «open» o = o.answer
answer_of (grow r e n) o = o.answer
answer_of (load r e i buffer) o = summed o.bytes o.answer
answer_of (store r e i bytes) o = o.answer
answer_of (look r e i) o = o.answer
answer_of (size r e) o = o.answer
answer_of (release r e) o = o.answer
answer_of recover o = o.answer

unfoldable pub called : Call → State → Told
called c s = let o = outcome bench c s in tells (answer_of c o) o.state

-- a length above 4,096 or another operation prints "99 0"; a last short record prints "98 0". No call is made
abbrev pub most_length : ℕ
most_length = 4096

abbrev pub odd : State → Told
odd s = tells (Refused 99) s

abbrev pub short : State → Told
short s = tells (Refused 98) s

unfoldable pub among : List Operation → ℕ → State → Told
among [] k s = odd s
among (o ∷ os) k s = let t = among os k s in cond (eqb k o.no) (called o.call s) t

unfoldable pub told : List ℕ → State → Told
told r s =
    cond (ltb (length r) record_bytes) (short s)
    (cond (ltb most_length (length_in r)) (odd s) (among (operations r) (operation_in r) s))

-- a refused line is printed and the script goes on
unfoldable pub lines : List (List ℕ) → State → List Line
lines [] s = []
lines (r ∷ rs) s = let t = told r s in t.line ∷ lines rs t.state
