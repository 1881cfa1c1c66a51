use Rattle.vortex_model_laws.proofs.Joined.{joins_constancy}
use Rattle.vortex_model_laws.proofs.laws.joins_give_the_constancy.Goals as goal

pub returns : goal.returns
returns c = joins_constancy
