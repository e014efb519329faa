-- What the script's faults and lines say in the paper's words.
use Rattle.std.specs.Prelude.{ℕ, Result, Ok, Err, pos}
use Rattle.paper.specs.Answers.{Answer, Done, Refused, no_of}
use Rattle.paper.specs.Script as paper
use Rattle.script.specs.declared.Fault.{Fault}
use Rattle.script.specs.declared.Fault.TheVariants.{Refused as Call, Odd, Short}
use Rattle.script.specs.declared.Line.{Line}

-- the number of a fault: the refusal's own, 99 for a record that is odd, 98 for one that is short
abbrev pub fault_no : Fault → ℕ
fault_no (Call k) = no_of k
fault_no Odd = 99
fault_no Short = 98

-- the answer that a record's Result says
abbrev pub said : Result ℕ Fault → Answer
said (Ok v) = Done v
said (Err f) = Refused (fault_no f)

-- the line that is printed
abbrev pub printed : Line → paper.Line
printed l = record { number = l.refusal; value = pos l.value }
