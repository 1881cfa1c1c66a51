use Rattle.vortex_model_laws.proofs.Runs.{runs_scanned}
use Rattle.vortex_model_laws.proofs.laws.runs_are_scanned_exactly.Goals as goal

pub returns : goal.returns
returns c = runs_scanned c.steps_keep_tables.ensures
