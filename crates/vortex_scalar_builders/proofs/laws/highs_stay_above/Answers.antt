use Rattle.vortex_model_laws.proofs.Bounded.{covered_high}
use Rattle.vortex_scalar_builders.proofs.laws.highs_stay_above.Goals as goal

pub returns : goal.returns
returns c = covered_high
