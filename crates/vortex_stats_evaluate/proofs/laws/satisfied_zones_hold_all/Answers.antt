use Rattle.vortex_stats_evaluate.proofs.Zones.{all_selected}
use Rattle.vortex_stats_evaluate.proofs.laws.satisfied_zones_hold_all.Goals as goal

pub returns : goal.returns
returns g c = all_selected _ c.built_in_proofs_read_no_columns.ensures c.satisfiers_are_sound.ensures
