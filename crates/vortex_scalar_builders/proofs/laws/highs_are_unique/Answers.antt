use Rattle.vortex_scalar_builders.proofs.Unique.{high_same}
use Rattle.vortex_scalar_builders.proofs.laws.highs_are_unique.Goals as goal

pub returns : goal.returns
returns c = high_same
