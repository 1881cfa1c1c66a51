use Rattle.vortex_stats_evaluate.proofs.Zones.{none_selected}
use Rattle.vortex_stats_evaluate.proofs.laws.falsified_zones_hold_none.Goals as goal

pub returns : goal.returns
returns g c = none_selected _ c.built_in_proofs_read_no_columns.ensures c.falsifiers_are_sound.ensures
