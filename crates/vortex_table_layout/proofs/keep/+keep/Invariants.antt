use Rattle.std.proofs.Common.{◌≡◌, ◌+◌, ◌*◌, [], drop}
use Rattle.std.specs.List.{list_all}
use Rattle.vortex_arrays_model.specs.Layout.{size_of, columns_size}
use Rattle.vortex_arrays_model.specs.Parts.{columns_of}
use Rattle.vortex_table_layout.specs.Kept.{has_record_columns}
use Rattle.vortex_table_layout.proofs.keep.+keep.Given as goal

abbrev pub decreases-has_record_columns : goal.decreases-has_record_columns
decreases-has_record_columns l = 2 * size_of l.array.now + 1

abbrev pub decreases-have_record_columns : goal.decreases-have_record_columns
decreases-have_record_columns l = 2 * columns_size (columns_of [] l.fields.now.items) + 2

abbrev pub invariant-have_record_columns-loop-field : goal.invariant-have_record_columns-loop-field
invariant-have_record_columns-loop-field l = list_all has_record_columns (drop l.field-index l.fields.items) ≡ list_all has_record_columns l.fields.items
