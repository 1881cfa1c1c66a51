use Rattle.vortex_model_rules.proofs.NullSides.{proved_null}
use Rattle.vortex_model_rules.proofs.laws.null_sides_are_proved.Goals as goal

pub returns : goal.returns
returns c = proved_null
