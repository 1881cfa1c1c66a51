use Rattle.vortex_model_rules.proofs.Scans.{no_rules_scan}
use Rattle.vortex_model_rules.proofs.laws.scans_with_no_rules_are_scans.Goals as goal

pub returns : goal.returns
returns c = no_rules_scan c.built_in_proofs_read_no_columns.ensures
