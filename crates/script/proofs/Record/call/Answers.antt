-- Each operation's call keeps its promise.
use Rattle.std.proofs.Common.{[], rules}
use Rattle.paper.specs.Outcomes.{lent}
use Rattle.paper.specs.Calls.{«open», grow, release, recover}
use Rattle.script.proofs.Told.{call_kept, size_kept}
use Rattle.script.proofs.Record.call.Goals as goal

pub returns-in-Open : goal.returns-in-Open
returns-in-Open c =
    let k = call_kept «open» _ [] _ (lent c.args.image.now c.args.index.now) c.open.ensures in
    search (rules, k)

pub returns-in-Grow : goal.returns-in-Grow
returns-in-Grow c =
    let r = c.args.self.now in
    let k = call_kept (grow r.book.region.0 r.book.edition.0 r.number) _ [] _ (lent c.args.image.now c.args.index.now) c.grow.ensures in
    search (rules, k)

pub returns-in-Release : goal.returns-in-Release
returns-in-Release c =
    let r = c.args.self.now in
    let k = call_kept (release r.book.region.0 r.book.edition.0) _ [] _ (lent c.args.image.now c.args.index.now) c.release.ensures in
    search (rules, k)

pub returns-in-Size : goal.returns-in-Size
returns-in-Size c =
    let r = c.args.self.now in
    let k = size_kept r.book.region.0 r.book.edition.0 _ c.args.image.now c.args.index.now c.size.ensures in
    search (rules, k)

pub returns-in-Recover : goal.returns-in-Recover
returns-in-Recover c =
    let k = call_kept recover _ [] _ (lent c.args.image.now c.args.index.now) c.recover.ensures in
    search (rules, k)
