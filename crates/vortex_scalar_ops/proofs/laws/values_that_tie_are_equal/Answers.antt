use Rattle.vortex_scalar_ops.proofs.Ordered.{tied_same}
use Rattle.vortex_scalar_ops.proofs.laws.values_that_tie_are_equal.Goals as goal

pub returns : goal.returns
returns c = tied_same
