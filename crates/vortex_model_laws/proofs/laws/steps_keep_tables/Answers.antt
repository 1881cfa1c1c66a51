use Rattle.vortex_model_laws.proofs.Steps.{step_kept}
use Rattle.vortex_model_laws.proofs.laws.steps_keep_tables.Goals as goal

pub returns : goal.returns
returns c = step_kept
