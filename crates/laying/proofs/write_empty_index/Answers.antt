-- `laying::write_empty_index` meets its contract.
use mathlib.Core.Path.{◌∙◌}
use Rattle.rules.proofs.Laid.{empty_joined}
use Rattle.laying.proofs.write_empty_index.Goals as goal

pub returns : goal.returns
returns c = (rw (c.slot_at.ensures, c.fill_u16.ensures) at c.fill_u16-2.ensures) ∙ empty_joined c.args.g c.args.index.now c.requires.long
