-- `image::Image::is_fresh` meets its contract.
use Rattle.std.proofs.Common.{eqb}
use Prim.Native.Nat.{ℕ}
use mathlib.Core.Path.{◌∙◌, ap, ap₂}
use Rattle.laws.specs.Bytes.{num}
use Rattle.image.proofs.Entries.{fresh_read}
use Rattle.image.proofs.Image.is_fresh.Goals as goal

pub returns : goal.returns
returns c =
    let i = c.args.self.now in
    ap₂ (λ (n e : ℕ). eqb n e) (c.read.ensures ∙ ap (num 8 i.bytes.now) c.size_at.ensures) c.requires.entry_fresh
    ∙ fresh_read i.g i.bytes.now c.args.r.0 c.requires.r_lt_entries
