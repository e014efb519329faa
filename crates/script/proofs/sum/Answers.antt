-- The sum is that of the library, read byte by byte.
use Rattle.std.proofs.Common.{◌≡◌, rules, sym, ◌∙◌, sum}
use Rattle.script.proofs.Sums.{sum_of_list}
use Rattle.script.proofs.sum.Goals as goal

pub returns : goal.returns
returns c =
    let e : c.sum.result ≡ sum c.args.bytes.now = search rules in
    e ∙ sym (sum_of_list c.args.bytes.now)
