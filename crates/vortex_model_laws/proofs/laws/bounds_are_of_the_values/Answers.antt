use Rattle.vortex_model_laws.proofs.Values.{bounds_of_values}
use Rattle.vortex_model_laws.proofs.laws.bounds_are_of_the_values.Goals as goal

pub returns : goal.returns
returns c = bounds_of_values
