use Rattle.std.proofs.Common.{◌+◌, ◌*◌}
use Rattle.vortex_dtype_core.specs.View.{type_of, fields_of}
use Rattle.vortex_dtype_core.proofs.Sizes.{type_size, fields_size}
use Rattle.vortex_arrays_concat.specs.Columns.{AreFields}
use Rattle.vortex_arrays_concat.proofs.nested.+concat.Given as goal

abbrev pub decreases-concat_column : goal.decreases-concat_column
decreases-concat_column l = 4 * type_size (type_of l.dtype.now) + 3

abbrev pub decreases-concat_alike : goal.decreases-concat_alike
decreases-concat_alike l = 4 * type_size (type_of l.dtype.now) + 2

abbrev pub decreases-concat_records : goal.decreases-concat_records
decreases-concat_records l = 4 * fields_size (fields_of l.types.now) + 5

abbrev pub decreases-concat_fields : goal.decreases-concat_fields
decreases-concat_fields l = 4 * fields_size (fields_of l.types.now) + 4

abbrev pub decreases-concat_fixed_lists : goal.decreases-concat_fixed_lists
decreases-concat_fixed_lists l = 4 * type_size (type_of l.element.now) + 4

abbrev pub decreases-concat_lists : goal.decreases-concat_lists
decreases-concat_lists l = 4 * type_size (type_of l.element.now) + 4

abbrev pub invariant-concat_fields-loop-i : goal.invariant-concat_fields-loop-i
invariant-concat_fields-loop-i l = AreFields l.arrays l.i l.fields.items
