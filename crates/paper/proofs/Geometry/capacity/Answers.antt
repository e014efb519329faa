-- `Geometry::capacity` meets its contract.
use Rattle.std.proofs.Common.{arith}
use Rattle.paper.specs.Geometry.{capacity}
use Rattle.paper.proofs.Geometry.capacity.Goals as goal

pub returns : goal.returns
unfolding capacity
returns c = rw (← c.block_bytes.ensures) (omega (arith, c.min.ensures, c.saturating_sub.ensures))
