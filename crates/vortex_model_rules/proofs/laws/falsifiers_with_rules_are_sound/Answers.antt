use Rattle.vortex_model_rules.proofs.WithRules.{falsifiers_sound}
use Rattle.vortex_model_rules.proofs.laws.falsifiers_with_rules_are_sound.Goals as goal

pub returns : goal.returns
returns c = falsifiers_sound
