use Rattle.vortex_model_rules.proofs.Scans.{same_answers}
use Rattle.vortex_model_rules.proofs.laws.scans_with_rules_lose_none.Goals as goal

pub returns : goal.returns
returns c = same_answers c.built_in_proofs_read_no_columns.ensures
