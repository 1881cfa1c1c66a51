use Rattle.vortex_model_laws.proofs.Bounded.{covered_low}
use Rattle.vortex_scalar_builders.proofs.laws.lows_stay_below.Goals as goal

pub returns : goal.returns
returns c = covered_low
