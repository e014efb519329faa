-- `store` tells what a store of the fill byte tells.
use Rattle.std.proofs.Common.{[]}
use Rattle.std.proofs.lemmas.List.{take-replicate}
use Rattle.paper.specs.Outcomes.{lent}
use Rattle.paper.specs.Script.{most_length}
use Rattle.script.proofs.Told.{call_kept}
use Rattle.script.proofs.Record.store.Goals as goal

pub returns : goal.returns
returns c =
    let r = c.args.self.now in
    rw (take-replicate r.length most_length r.fill r.length_fits) at (call_kept _ _ [] _ (lent c.args.image.now c.args.index.now) c.store.ensures)
