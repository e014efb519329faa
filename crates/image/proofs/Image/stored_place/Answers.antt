-- `image::Image::stored_place` meets its contract.
use mathlib.Core.Path.{◌∙◌, ap}
use Prim.Native.Nat.{ℕ, ◌+◌}
use Rattle.laws.specs.Bytes.{num}
use Rattle.rules.proofs.Fronts.{place_read}
use Rattle.image.proofs.Image.stored_place.Goals as goal

pub returns : goal.returns
returns c =
    let i = c.args.self.now in
    c.read.ensures
    ∙ ap (λ (o : ℕ). num 2 i.bytes.now (o + 2)) c.entry_at.ensures
    ∙ place_read i.g i.bytes.now c.args.b.0 c.requires.b_lt_blocks
