use Rattle.std.proofs.Common.{◌+◌, ◌*◌}
use Rattle.vortex_arrays_model.specs.Layout.{size_of, columns_size}
use Rattle.vortex_arrays_model.specs.Parts.{columns_of}
use Rattle.vortex_table_layout.specs.Compacted.{IsCompacted}
use Rattle.vortex_table_layout.proofs.MadeColumns.{FirstMade}
use Rattle.vortex_table_layout.proofs.compact.+compact.Given as goal

abbrev pub decreases-compact_part : goal.decreases-compact_part
decreases-compact_part l = 2 * size_of l.array.now + 1

abbrev pub decreases-compact_fields : goal.decreases-compact_fields
decreases-compact_fields l = 2 * columns_size (columns_of l.names.now l.fields.now.items) + 2

abbrev pub invariant-compact_fields-loop-field : goal.invariant-compact_fields-loop-field
invariant-compact_fields-loop-field l = FirstMade IsCompacted l.fields.items l.field-index l.compacted.items
