-- `Geometry::block_bytes` meets its contract.
use Rattle.std.proofs.Common.{refl}
use Rattle.paper.specs.Geometry.{block_bytes}
use Rattle.paper.proofs.Geometry.block_bytes.Goals as goal

pub returns : goal.returns
unfolding block_bytes
returns c = refl
