-- What a parsed record asks, in the paper's words.
use Rattle.std.specs.Prelude.{◌≡◌, ℕ, List, Result, Ok, Err, replicate}
use Rattle.paper.specs.Answers.{Refused}
use Rattle.paper.specs.Calls.{Call, «open», grow, load, store, size, release, recover}
use Rattle.paper.specs.Outcomes.{State}
use Rattle.paper.specs.Script.{Told, tells, called, told}
use Rattle.script.specs.declared.Fault.{Fault}
use Rattle.script.specs.declared.Operation.{Operation}
use Rattle.script.specs.declared.Operation.TheVariants.{Open, Grow, Store, Load, Release, Size, Recover}
use Rattle.script.specs.declared.Record.{Record}
use Rattle.script.specs.Said.{fault_no}

-- the call of a record: a store's bytes are the fill byte, a load's buffer is zeros
abbrev pub makes : Operation → Record → Call
makes Open r = «open»
makes Grow r = grow r.book.region.0 r.book.edition.0 r.number
makes Store r = store r.book.region.0 r.book.edition.0 r.number (replicate r.length r.fill)
makes Load r = load r.book.region.0 r.book.edition.0 r.number (replicate r.length 0)
makes Release r = release r.book.region.0 r.book.edition.0
makes Size r = size r.book.region.0 r.book.edition.0
makes Recover r = recover

abbrev pub call_of : Record → Call
call_of r = makes r.operation r

-- what the bytes of a record tell is what its call tells, or the fault alone
abbrev pub asked : Result Record Fault → State → Told
asked (Ok r) s = called (call_of r) s
asked (Err f) s = tells (Refused (fault_no f)) s

abbrev pub Asks : List ℕ → Result Record Fault → Type 0
Asks bytes r = (s : State) → told bytes s ≡ asked r s
