use Rattle.vortex_model_laws.proofs.Alone.{as_each_alone}
use Rattle.vortex_model_laws.proofs.laws.groups_change_nothing.Goals as goal

pub returns : goal.returns
returns c = as_each_alone
