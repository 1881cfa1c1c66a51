use Rattle.vortex_model_rules.proofs.SameValue.{same_value}
use Rattle.vortex_model_rules.proofs.laws.pushing_in_keeps_the_value.Goals as goal

pub returns : goal.returns
returns c = same_value
