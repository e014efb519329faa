-- `laying::write_tables` meets its contract: the header is put before what stands after it.
use mathlib.Core.Path.{◌∙◌}
use Rattle.rules.proofs.Fronts.{front_fits}
use Rattle.rules.proofs.Moved.{moved_joined}
use Rattle.laying.proofs.write_tables.Goals as goal

pub returns : goal.returns
returns c =
    (rw (c.write_regions.ensures, c.write_blocks.ensures) at c.write_header.ensures)
    ∙ moved_joined c.args.g c.args.version c.args.pages.0 _ _ c.need-taken.ensures (front_fits _ _ c.requires.0)
