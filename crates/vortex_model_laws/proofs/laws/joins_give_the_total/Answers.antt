use Rattle.vortex_model_laws.proofs.Joined.{joins_total}
use Rattle.vortex_model_laws.proofs.laws.joins_give_the_total.Goals as goal

pub returns : goal.returns
returns c = joins_total
