use Rattle.vortex_model_laws.proofs.BoundFunctions.{low_by_function}
use Rattle.vortex_scalar_builders.proofs.laws.lows_are_of_the_function.Goals as goal

pub returns : goal.returns
returns c = low_by_function
