use Rattle.vortex_scalar_builders.proofs.Unique.{low_same}
use Rattle.vortex_scalar_builders.proofs.laws.lows_are_unique.Goals as goal

pub returns : goal.returns
returns c = low_same
