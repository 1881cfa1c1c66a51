use Rattle.vortex_model_rules.proofs.NoRules.{both_without}
use Rattle.vortex_model_rules.proofs.laws.no_rules_add_nothing.Goals as goal

pub returns : goal.returns
returns c = both_without
