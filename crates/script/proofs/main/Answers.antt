-- The lay is not refused.
use Rattle.script.proofs.Start.{laid_lem}
use Rattle.script.proofs.main.Goals as goal

pub unwrap-requires : goal.unwrap-requires
unwrap-requires c = laid_lem _ _ c.lay.ensures
