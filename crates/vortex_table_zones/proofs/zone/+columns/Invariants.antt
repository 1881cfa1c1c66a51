use Rattle.vortex_dtype_core.specs.View.{type_of, fields_of}
use Rattle.vortex_dtype_core.proofs.Sizes.{type_size, fields_size}
use Rattle.vortex_dtype_path.specs.View.{steps_of}
use Rattle.vortex_table_core.specs.TableView.{table_of}
use Rattle.vortex_table_zones.specs.Zone.{is_count, IsTold}
use Rattle.vortex_table_zones.proofs.ValidZones.{AreValidSoFar}
use Rattle.vortex_table_zones.proofs.ZoneLemmas.{AreSoFar}
use Rattle.vortex_table_zones.proofs.zone.+columns.Given as goal

abbrev pub decreases-columns_value : goal.decreases-columns_value
decreases-columns_value l = type_size (type_of l.dtype.now)

abbrev pub decreases-fields_values : goal.decreases-fields_values
decreases-fields_values l = fields_size (fields_of l.fields.now)

abbrev pub invariant-fields_values-loop-field : goal.invariant-fields_values-loop-field
invariant-fields_values-loop-field l =
    AreSoFar (IsTold (table_of l.table) l.group l.statistic) (steps_of l.path) l.fields l.field-index l.values.items
    × AreValidSoFar (is_count l.statistic) l.fields l.field-index l.values.items
