use Rattle.vortex_model_rules.proofs.PushNot.{scans}
use Rattle.vortex_model_rules.proofs.laws.scans_with_push_not_are_scans_pushed_in.Goals as goal

pub returns : goal.returns
returns c = λ t paths e question table. scans t e question c.built_in_proofs_read_no_columns.ensures paths table
