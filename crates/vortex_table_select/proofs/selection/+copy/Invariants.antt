use Rattle.std.proofs.Common.{◌≡◌, take, map}
use Rattle.vortex_table_schema.specs.Cut.{part_of_field}
use Rattle.vortex_table_select.proofs.selection.+copy.Given as goal

abbrev pub invariant-copy_fields-loop-field : goal.invariant-copy_fields-loop-field
invariant-copy_fields-loop-field l = map part_of_field l.copy.items ≡ map part_of_field (take l.field-index l.field-items)
