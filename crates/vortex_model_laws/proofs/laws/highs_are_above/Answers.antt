use Rattle.vortex_model_laws.proofs.Bounded.{high_above}
use Rattle.vortex_model_laws.proofs.laws.highs_are_above.Goals as goal

pub returns : goal.returns
returns c = high_above
