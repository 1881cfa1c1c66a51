use Rattle.vortex_model_rules.proofs.NullComparison.{keeps_its_law}
use Rattle.vortex_model_rules.proofs.laws.null_comparison_keeps_its_law.Goals as goal

pub returns : goal.returns
returns c = keeps_its_law
