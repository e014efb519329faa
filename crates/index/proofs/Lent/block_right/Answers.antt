-- `index::Lent::block_right` meets its contract.
use Rattle.std.proofs.Common.{◌<◌, rules, tests, arith}
use Rattle.image.specs.Views.{front_of}
use Rattle.paper.specs.Image.{owner}
use Rattle.rules.proofs.Sentences.{named_past}
use Rattle.index.proofs.Witness.{right_beyond, right_slot, told_below}
use Rattle.index.proofs.Lent.block_right.Goals as goal
use Rattle.index.proofs.Lent.block_right.Goals.{Else-self-r}

-- the owner is a region
inside : (c : Else-self-r) → let i = c.args.self.now.image in owner i.g (front_of i) c.args.b.0 < i.g.entries
inside c = omega (arith, c.owner-r.ensures)

pub returns-then-self-r : goal.returns-then-self-r
returns-then-self-r c =
    let i = c.args.self.now.image in
    let past = named_past i.g (front_of i) c.args.b.0 (omega (arith, c.owner-r.ensures)) in
    search (rules, tests, past)

pub slot-requires : goal.slot-requires
slot-requires c =
    let told = told_below _ _ _ c.requires.summed c.args.b.0 (inside (goal.at.slot-requires c).Else-self-r) in
    rw c.args.self.now.same (search (arith, told, c.owner-r.ensures, c.start.ensures, c.start-2.ensures, c.stored_place.ensures))

pub returns-then-s-start : goal.returns-then-s-start
returns-then-s-start c =
    let right = right_slot _ _ _ c.requires.summed c.args.b.0 (inside (goal.at.returns-then-s-start c).Else-self-r) in
    search (rules, tests, arith, right, c.owner-r.ensures, c.start.ensures, c.start-2.ensures, c.stored_place.ensures)

pub returns-else-s-start : goal.returns-else-s-start
returns-else-s-start c =
    let wrong = right_beyond _ _ _ c.requires.summed c.args.b.0 (inside (goal.at.returns-else-s-start c).Else-self-r) in
    search (rules, tests, arith, wrong, c.owner-r.ensures, c.start.ensures, c.start-2.ensures, c.stored_place.ensures)
