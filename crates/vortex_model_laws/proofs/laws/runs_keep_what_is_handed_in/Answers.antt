use Rattle.vortex_model_laws.proofs.Runs.{runs_keep}
use Rattle.vortex_model_laws.proofs.laws.runs_keep_what_is_handed_in.Goals as goal

pub returns : goal.returns
returns c = runs_keep c.steps_keep_tables.ensures
