-- `image::Image::named` meets its contract.
use Prim.Native.Nat.{◌≤◌}
use mathlib.Core.Path.{sym}
use Rattle.rules.proofs.Sentences.{named_read, named_past}
use Rattle.image.specs.Views.{front_of}
use native.Mathlib.Nat.{mul-le-mul}
use native.Mathlib.Omega.{arith}
use Rattle.image.proofs.Image.named.Goals as goal

pub returns-then-self-r : goal.returns-then-self-r
returns-then-self-r c =
    let i = c.args.self.now in
    sym (named_past i.g (front_of i) c.args.b.0 (omega (arith, c.owner-r.ensures)))

pub overflow_mul-before : goal.overflow_mul-before
overflow_mul-before c =
    let h : c.stored_place.result ≤ 65536 = omega arith in
    omega (arith, mul-le-mul h c.args.self.now.readable.allowed.pages_most)

pub returns : goal.returns
returns c =
    let i = c.args.self.now in
    rw (c.stored_place.ensures, c.pages.ensures, c.owner-r.ensures)
    (named_read i.g (front_of i) i.readable.allowed.pages_least c.args.b.0 (omega (arith, c.owner-r.ensures)))
