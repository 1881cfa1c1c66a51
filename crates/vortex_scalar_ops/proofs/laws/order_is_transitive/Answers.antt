use Rattle.vortex_scalar_ops.proofs.Ordered.{chains}
use Rattle.vortex_scalar_ops.proofs.laws.order_is_transitive.Goals as goal

pub returns : goal.returns
returns c = chains
