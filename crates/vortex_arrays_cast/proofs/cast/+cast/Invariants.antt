use Rattle.std.proofs.Common.{◌+◌, ◌*◌, ◌≤◌, length}
use Rattle.vortex_arrays_model.specs.Layout.{size_of, columns_size}
use Rattle.vortex_arrays_model.specs.Parts.{columns_of}
use Rattle.vortex_arrays_cast.proofs.CastLemmas.{FirstCast}
use Rattle.vortex_arrays_cast.proofs.cast.+cast.Given as goal

abbrev pub decreases-cast_part : goal.decreases-cast_part
decreases-cast_part l = 3 * size_of l.array.now

abbrev pub decreases-cast_records : goal.decreases-cast_records
decreases-cast_records l = 3 * columns_size (columns_of l.names.now l.fields.now.items) + 2

abbrev pub decreases-cast_fields : goal.decreases-cast_fields
decreases-cast_fields l = 3 * columns_size (columns_of l.names.now l.fields.now.items) + 1

abbrev pub decreases-cast_fixed_lists : goal.decreases-cast_fixed_lists
decreases-cast_fixed_lists l = 3 * size_of l.elements.now + 1

abbrev pub decreases-cast_lists : goal.decreases-cast_lists
decreases-cast_lists l = 3 * size_of l.elements.now + 1

abbrev pub decreases-cast_any_fixed_lists : goal.decreases-cast_any_fixed_lists
decreases-cast_any_fixed_lists l = 3 * size_of l.elements.now + 2

abbrev pub decreases-cast_any_lists : goal.decreases-cast_any_lists
decreases-cast_any_lists l = 3 * size_of l.elements.now + 2

abbrev pub invariant-cast_fields-loop-i : goal.invariant-cast_fields-loop-i
invariant-cast_fields-loop-i l =
    FirstCast l.targets l.fields.items l.i l.columns.items × (l.from ≤ length l.ranges)
