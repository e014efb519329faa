-- The tests that come before the operation, the operation's, and the fields.
use Rattle.std.proofs.Common.{rules, arith}
use Rattle.std.proofs.lemmas.Result.{err_from_is_err_and}
use Rattle.script.proofs.Told.{told_short, told_long, told_odd, told_call}
use Rattle.script.proofs.Record.parse.Goals as goal

pub returns-then-bytes-lt-RECORD : goal.returns-then-bytes-lt-RECORD
returns-then-bytes-lt-RECORD c s = told_short c.args.bytes.now s (omega arith)

pub returns-then-length-gt-MOST_LENGTH : goal.returns-then-length-gt-MOST_LENGTH
returns-then-length-gt-MOST_LENGTH c s = told_long c.args.bytes.now s (omega arith) (omega arith)

pub returns-in_err-try_from : goal.returns-in_err-try_from
returns-in_err-try_from c s =
    let p = err_from_is_err_and c.from_residual.result c.from_residual.ensures.1 in
    let e = c.in_err-try_from.ensures in
    rw (p.1, p.2, e.0) (told_odd c.args.bytes.now s (omega arith) (omega arith) e.1)

pub returns : goal.returns
returns c s =
    told_call c.args.bytes.now s _ (omega arith)
    (record { operation = search rules; fill = search rules; region = search rules; edition = search rules; length = search rules; number = search rules })
