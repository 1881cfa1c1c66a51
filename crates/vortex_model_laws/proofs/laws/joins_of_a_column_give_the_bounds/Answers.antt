use Rattle.vortex_model_laws.proofs.LeafOrder.{bounds_of_column}
use Rattle.vortex_model_laws.proofs.laws.joins_of_a_column_give_the_bounds.Goals as goal

pub returns : goal.returns
returns c = bounds_of_column
