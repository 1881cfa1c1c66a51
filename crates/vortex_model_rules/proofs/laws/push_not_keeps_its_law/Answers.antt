use Rattle.vortex_model_rules.proofs.PushNot.{keeps_its_law}
use Rattle.vortex_model_rules.proofs.laws.push_not_keeps_its_law.Goals as goal

pub returns : goal.returns
returns c = keeps_its_law
