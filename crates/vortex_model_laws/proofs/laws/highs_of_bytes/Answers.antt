use Rattle.vortex_model_laws.proofs.CountUp.{high_of_bytes}
use Rattle.vortex_model_laws.proofs.laws.highs_of_bytes.Goals as goal

pub returns : goal.returns
returns c = high_of_bytes
