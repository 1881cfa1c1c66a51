use Rattle.std.proofs.Common.{◌≡◌, take, map}
use Rattle.vortex_scalar_value.specs.View.{raw_in, raws_in}
use Rattle.vortex_table_schema.specs.Cut.{cut_part, part_of_field}
use Rattle.vortex_table_schema.proofs.projection.+cut_value.Given as goal

abbrev pub invariant-cut_values-loop-field : goal.invariant-cut_values-loop-field
invariant-cut_values-loop-field l = map raw_in l.kept.items ≡ map (cut_part (raws_in l.values)) (map part_of_field (take l.field-index l.field-items))
