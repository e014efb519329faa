-- `books::has_room` meets its contract: the blocks are few, and what the pages leave of them is compared as the blocks are.
use Prim.Native.Nat.{ℕ, ◌+◌, ◌-◌, ◌*◌, ◌≤◌}
use mathlib.Core.Path.{◌∙◌, ap}
use lib.Dec.{leb}
use lib.ListN.{length}
use Rattle.paper.specs.Geometry.{most_blocks, need}
use Rattle.paper.proofs.Arithmetic.{capacity_blocks}
use Rattle.rules.proofs.Facts.{open_below}
use Rattle.keeping.proofs.Room.{holds_old, room_is, room_small, product_small}
use native.Mathlib.Omega.{arith}
use Rattle.books.proofs.has_room.Goals as goal
use Rattle.books.proofs.has_room.Goals.{After-taken}

-- the blocks of region 1, and those not taken
abbrev blocks : After-taken → ℕ
blocks c = c.need-spare.result + (c.capacity.result - c.taken.result)

-- the blocks are few
small : (c : After-taken) → need c.args.image.now.g c.pages-old.result.0 + blocks c ≤ 3 * most_blocks
small c =
    let a = c.args in
    let p = c.requires in
    let g = a.image.now.g in
    let image = a.image.now.bytes.now in
    let few = room_small g a.image.now.readable.allowed _ (capacity_blocks g (length image)) _ p.formed _ p.region_value in
    omega (arith, few, ap (need g) c.pages-old.ensures, c.need-spare.ensures, c.capacity.ensures, c.taken.ensures)

pub pages-old-requires : goal.pages-old-requires
pages-old-requires c = record { r_lt_entries = open_below _ _ _ c.requires.region_value }

pub overflow_add-room : goal.overflow_add-room
overflow_add-room c = record { fits = omega (arith, small (goal.at.overflow_add-room c).After-taken) }

pub overflow_add-most : goal.overflow_add-most
overflow_add-most c = record { fits = omega (arith, small (goal.at.overflow_add-most c).After-taken, c.need.ensures) }

pub overflow_mul-most : goal.overflow_mul-most
overflow_mul-most c =
    let taken = (goal.at.overflow_mul-most c).After-taken in
    let k = c.need.result + blocks taken in
    record { fits = omega (arith, product_small _ c.args.image.now.readable.allowed k (omega (arith, small taken, c.need.ensures))) }

pub overflow_sub-result : goal.overflow_sub-result
overflow_sub-result c =
    let i = c.args.image.now in
    let held = holds_old i.g i.readable.allowed.pages_least c.pages-old.result.0 (blocks (goal.at.overflow_sub-result c).After-taken) in
    omega (arith, rw (← c.need.ensures) at held)

pub returns : goal.returns
returns c =
    let i = c.args.image.now in
    let n = c.args.pages.0 in
    let old = c.pages-old.result.0 in
    let more = blocks (goal.at.returns c).After-taken in
    ap (λ k. leb n ((k + more) * i.g.pages - old)) c.need.ensures
    ∙ room_is i.g i.readable.allowed.pages_least old more n
    ∙ cc (c.pages-old.ensures, c.need-spare.ensures, c.capacity.ensures, c.taken.ensures)
