use Rattle.vortex_model_rules.proofs.PushNot.{faultless}
use Rattle.vortex_model_rules.proofs.laws.built_in_proofs_are_faultless.Goals as goal

pub returns : goal.returns
returns c = faultless
