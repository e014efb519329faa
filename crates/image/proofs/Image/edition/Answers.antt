-- `image::Image::edition` meets its contract.
use mathlib.Core.Path.{◌∙◌, ap, sym}
use Prim.Native.Nat.{ℕ, ◌+◌}
use Rattle.laws.specs.Bytes.{num}
use Rattle.rules.proofs.Fronts.{edition_read, edition_none}
use Rattle.image.proofs.Image.edition.Goals as goal

pub returns-then-not-is_version_3 : goal.returns-then-not-is_version_3
returns-then-not-is_version_3 c =
    let i = c.args.self.now in
    sym (edition_none i.g i.bytes.now c.args.r.0 c.requires.r_lt_entries (sym c.if-not-is_version_3.ensures))

pub returns : goal.returns
returns c =
    let i = c.args.self.now in
    c.read.ensures
    ∙ ap (λ (o : ℕ). num 4 i.bytes.now (o + 4)) c.size_at.ensures
    ∙ edition_read i.g i.bytes.now c.args.r.0 c.requires.r_lt_entries (sym c.if-not-is_version_3.ensures)
