use Rattle.vortex_model_rules.proofs.WithRules.{satisfiers_sound}
use Rattle.vortex_model_rules.proofs.laws.satisfiers_with_rules_are_sound.Goals as goal

pub returns : goal.returns
returns c = satisfiers_sound
