use Rattle.std.proofs.Common.{◌+◌, ◌*◌, []}
use Rattle.vortex_arrays_model.specs.Layout.{size_of, columns_size}
use Rattle.vortex_arrays_model.specs.Parts.{columns_of}
use Rattle.vortex_arrays_concat.proofs.ArrayRoom.{FieldsTook}
use Rattle.vortex_arrays_concat.proofs.room.+room.Given as goal

abbrev pub decreases-left_by : goal.decreases-left_by
decreases-left_by l = 2 * size_of l.array.now + 1

abbrev pub decreases-left_by_fields : goal.decreases-left_by_fields
decreases-left_by_fields l = 2 * columns_size (columns_of [] l.fields.now.items) + 2

abbrev pub invariant-left_by_fields-loop-field : goal.invariant-left_by_fields-loop-field
invariant-left_by_fields-loop-field l = FieldsTook l.fields.items l.field-index l.rest l.left
