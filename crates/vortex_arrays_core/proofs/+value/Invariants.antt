use Rattle.std.proofs.Common.{◌≡◌, ◌+◌, ◌*◌, [], map, take}
use Rattle.std.specs.List.{range_with_len}
use Rattle.vortex_scalar_value.specs.View.{raw_in}
use Rattle.vortex_arrays_model.specs.Layout.{size_of, columns_size}
use Rattle.vortex_arrays_model.specs.Parts.{columns_of}
use Rattle.vortex_arrays_core.specs.RawRows.{raw_row}
use Rattle.vortex_arrays_core.proofs.+value.Given as goal

abbrev pub decreases-array::ArrayRef::value : goal.decreases-array::ArrayRef::value
decreases-array::ArrayRef::value l = 2 * size_of l.self.now + 1

abbrev pub decreases-scalar::values_from : goal.decreases-scalar::values_from
decreases-scalar::values_from l = 2 * size_of l.elements.now + 2

abbrev pub decreases-scalar::values_at : goal.decreases-scalar::values_at
decreases-scalar::values_at l = 2 * columns_size (columns_of [] l.fields.now.items) + 2

abbrev pub invariant-scalar::values_from-loop-k : goal.invariant-scalar::values_from-loop-k
invariant-scalar::values_from-loop-k l = map raw_in l.items.items ≡ map (raw_row l.elements) (range_with_len l.start l.k)

abbrev pub invariant-scalar::values_at-loop-field : goal.invariant-scalar::values_at-loop-field
invariant-scalar::values_at-loop-field l = map raw_in l.items.items ≡ map (λ a. raw_row a l.i) (take l.field-index l.fields.items)
