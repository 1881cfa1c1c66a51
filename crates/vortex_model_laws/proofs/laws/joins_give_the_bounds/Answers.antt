use Rattle.vortex_model_laws.proofs.JoinOrder.{bounds_of_joins}
use Rattle.vortex_model_laws.proofs.laws.joins_give_the_bounds.Goals as goal

pub returns : goal.returns
returns c = bounds_of_joins
