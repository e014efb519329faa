-- `image::Image::is_version_3` meets its contract.
use Rattle.std.proofs.Common.{eqb}
use mathlib.Core.Path.{◌∙◌, ap₂}
use Prim.Native.Nat.{ℕ}
use Rattle.rules.proofs.Fronts.{version_read}
use Rattle.image.proofs.Image.is_version_3.Goals as goal

pub returns : goal.returns
returns c =
    let i = c.args.self.now in
    ap₂ (λ (v w : ℕ). eqb v w) (c.read.ensures ∙ version_read i.g i.bytes.now) c.from.ensures
