-- `image::set_entry` meets its contract.
use Prim.Native.Nat.{ℕ, ◌+◌}
use mathlib.Core.List.{List}
use Rattle.laws.specs.Bytes.{put}
use Rattle.paper.specs.Geometry.{entry_at}
use Rattle.paper.specs.Image.{set_entry}
use mathlib.Core.Path.{◌∙◌, ap}
use native.Mathlib.Omega.{arith}
use Rattle.rules.proofs.Fronts.{put_front2}
use Rattle.image.proofs.set_entry.Goals as goal

pub returns : goal.returns
unfolding set_entry
returns c =
    let a = c.args in
    let o = entry_at a.g a.b.0 in
    c.write-2.ensures
    ∙ ap (λ (l : List ℕ). put 2 (c.entry_at-at.result + 2) a.p.0 l) c.write.ensures
    ∙ ap (λ (o : ℕ). put 2 (o + 2) a.p.0 (put 2 o a.r.0 a.image.now)) c.entry_at-at.ensures
    ∙ put_front2 a.g a.image.now c.requires.readable 2 o a.r.0 2 (o + 2) a.p.0 (omega arith) (omega arith)
