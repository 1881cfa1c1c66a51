use Rattle.vortex_model_rules.proofs.PushNot.{as_pushed_in}
use Rattle.vortex_model_rules.proofs.laws.push_not_proves_as_pushed_in.Goals as goal

pub returns : goal.returns
returns c = as_pushed_in
