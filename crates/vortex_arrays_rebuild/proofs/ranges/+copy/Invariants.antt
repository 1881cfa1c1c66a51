use Rattle.std.proofs.Common.{◌≡◌, ◌<◌, ℕ, length, get_or, ◌+◌, ◌*◌}
use Rattle.vortex_arrays_model.specs.Layout.{Layout, size_of, valid_size, columns_size}
use Rattle.vortex_arrays_model.specs.Parts.{columns_of}
use Rattle.vortex_arrays_core.specs.LayoutOf.{valid_of}
use Rattle.vortex_arrays_rebuild.proofs.RangeLemmas.{Copies}
use Rattle.vortex_arrays_rebuild.proofs.ranges.+copy.Given as goal

abbrev pub decreases-copy_rows : goal.decreases-copy_rows
decreases-copy_rows l = 3 * size_of l.array.now + 2

abbrev pub decreases-copy_lists : goal.decreases-copy_lists
decreases-copy_lists l = 3 * (size_of l.elements.now + valid_size (valid_of l.validity.now) + 1) + 1

abbrev pub decreases-copy_validity : goal.decreases-copy_validity
decreases-copy_validity l = 3 * valid_size (valid_of l.validity.now) + 3

abbrev pub decreases-copy_fields : goal.decreases-copy_fields
decreases-copy_fields l = 3 * columns_size (columns_of l.names.now l.fields.now.items) + 3

abbrev pub invariant-copy_fields-loop-field : goal.invariant-copy_fields-loop-field
invariant-copy_fields-loop-field l = record {
  many : length l.parts.items ≡ l.field-index;
  each : (k : ℕ) (d : Layout) → k < l.field-index → Copies (get_or l.fields.items k d) (get_or l.parts.items k d) l.runs.list.items;
}
