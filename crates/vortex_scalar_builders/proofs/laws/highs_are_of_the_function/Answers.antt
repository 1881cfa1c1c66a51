use Rattle.vortex_model_laws.proofs.BoundFunctions.{high_by_function}
use Rattle.vortex_scalar_builders.proofs.laws.highs_are_of_the_function.Goals as goal

pub returns : goal.returns
returns c = high_by_function
