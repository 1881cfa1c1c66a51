use Rattle.vortex_model_laws.proofs.CountUp.{low_of_bytes}
use Rattle.vortex_model_laws.proofs.laws.lows_of_bytes.Goals as goal

pub returns : goal.returns
returns c = low_of_bytes
