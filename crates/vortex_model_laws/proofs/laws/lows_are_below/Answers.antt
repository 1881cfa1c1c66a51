use Rattle.vortex_model_laws.proofs.Bounded.{low_below}
use Rattle.vortex_model_laws.proofs.laws.lows_are_below.Goals as goal

pub returns : goal.returns
returns c = low_below
