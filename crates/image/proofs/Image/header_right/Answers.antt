-- `image::Image::header_right` meets its contract.
use Rattle.std.proofs.Common.{rules, ◌≡◌}
use Rattle.std.specs.Ordering.{nat_cmp, is_le}
use mathlib.Core.Path.{sym}
use borrow.Author.Tests.{lt-leb, le-leb}
use Rattle.paper.specs.Geometry.{fixed_regions, no_region}
use Rattle.paper.specs.Image.{taken, counter}
use Rattle.paper.specs.Refusals.{header_right}
use Rattle.image.specs.Views.{front_of}
use Rattle.image.proofs.Orders.{le_is}
use native.Mathlib.Omega.{arith}
use Rattle.image.proofs.Image.header_right.Goals as goal

pub returns-then-not-stamped : goal.returns-then-not-stamped
unfolding header_right
returns-then-not-stamped c = simp (sym c.if-not-stamped.ensures)

pub returns-then-self-taken : goal.returns-then-self-taken
unfolding header_right
returns-then-self-taken c =
    let i = c.args.self.now in
    simp (sym c.if-not-stamped.ensures, lt-leb (taken i.g (front_of i)) i.g.blocks (omega arith))

pub returns-then-c-lt-FIXED_REGIONS : goal.returns-then-c-lt-FIXED_REGIONS
unfolding header_right
returns-then-c-lt-FIXED_REGIONS c =
    let i = c.args.self.now in
    let t = front_of i in
    simp (
      sym c.if-not-stamped.ensures,
      le-leb (taken i.g t) i.g.blocks (omega arith),
      lt-leb fixed_regions (counter i.g t) (omega arith),
    )

pub returns : goal.returns
unfolding header_right
returns c =
    let i = c.args.self.now in
    let t = front_of i in
    let most : is_le (nat_cmp c.counter-c.result.0 c.no_region.result.0) ≡ header_right i.g t = simp (
      sym c.if-not-stamped.ensures,
      le-leb (taken i.g t) i.g.blocks (omega arith),
      le-leb fixed_regions (counter i.g t) (omega arith),
      c.counter-c.ensures,
      c.no_region.ensures,
      le_is (counter i.g t) (no_region i.g),
    ) in
    search (rules, most)
