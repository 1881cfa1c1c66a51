use Rattle.vortex_model_laws.proofs.Regrouped.{joined_alike}
use Rattle.vortex_model_laws.proofs.laws.joins_change_no_scan.Goals as goal

pub returns : goal.returns
returns c = joined_alike c.steps_keep_tables.ensures
