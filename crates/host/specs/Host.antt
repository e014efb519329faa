-- "A host in C or Rust calls them with numbers and byte slices only": a geometry by number, and an answer as one number.
use Rattle.std.specs.Prelude.{ℕ, ◌+◌, ◌-◌, ◌*◌, ◌^◌, cond, List, eqb, ℤ, pos, negsuc, Result, Ok, Err}
use Rattle.paper.specs.declared.Geometry.{Geometry}
use Rattle.paper.specs.Answers.{Answer, Refused}
use Rattle.paper.specs.Geometry.{bench, house}
use Rattle.paper.specs.Outcomes.{number_of, value_of, edition_in, State, Outcome}

-- no geometry: refused with 1
abbrev pub no_geometry : Geometry
no_geometry = record { page = 0; pages = 0; blocks = 0; entries = 0 }

-- geometry 0 is BENCH, 1 is HOUSE, any other number is refused with 1
unfoldable pub geometry_of : ℕ → Geometry
geometry_of n = cond (eqb n 0) bench (cond (eqb n 1) house no_geometry)

-- below the refusal an answer has room for a value of 56 bits
abbrev pub value_end : ℕ
value_end = 2 ^ 56

-- a value in these bits, one below 0 as its two's complement
abbrev pub in_bits_56 : ℤ → ℕ
in_bits_56 (pos v) = v
in_bits_56 (negsuc m) = value_end - 1 - m

-- a region has 16 of them; the edition that open gives with it stands above (02, R-12)
abbrev pub region_end : ℕ
region_end = 2 ^ 16

abbrev pub host_value : ℤ → ℕ → ℕ
host_value v e = in_bits_56 v + e * region_end

-- refusal × 2^56 + value
abbrev pub packed : Answer → ℕ
packed a = number_of a * value_end + host_value (value_of a) (edition_in a)

-- the answer that a Result says, where `done` is the paper's for its value, and `number` is that of its refusal
abbrev pub says : {A B : Type 0} → (A → Answer) → (B → ℕ) → Result A B → Answer
says done number (Ok x) = done x
says done number (Err k) = Refused (number k)

-- all that a host sees of a call: its number, the buffer, and what is left in image and index
pub record HostSees : Type 0 where
  pub number : ℕ
  pub bytes : List ℕ
  pub state : State

abbrev pub sees : ℕ → List ℕ → State → HostSees
sees n bytes s = record { number = n; bytes = bytes; state = s }

abbrev pub host_sees : Outcome → HostSees
host_sees o = sees (packed o.answer) o.bytes o.state
