use Rattle.vortex_model_laws.proofs.Regrouped.{alike}
use Rattle.vortex_model_laws.proofs.laws.groups_do_not_show.Goals as goal

pub returns : goal.returns
returns c = alike
