use Rattle.std.proofs.Common.{◌≡◌, ◌<◌, ℕ, length, get_or, ◌+◌, ◌*◌}
use Rattle.vortex_arrays_model.specs.Layout.{Layout, size_of, columns_size}
use Rattle.vortex_arrays_model.specs.Parts.{columns_of}
use Rattle.vortex_arrays_model.specs.Picks.{Picks}
use Rattle.vortex_arrays_core.proofs.+gather.Given as goal

abbrev pub decreases-array::ArrayRef::gather : goal.decreases-array::ArrayRef::gather
decreases-array::ArrayRef::gather l = 2 * size_of l.self.now + 1

abbrev pub decreases-gather::gather_fields : goal.decreases-gather::gather_fields
decreases-gather::gather_fields l = 2 * columns_size (columns_of l.names.now l.fields.now.items) + 2

abbrev pub invariant-gather::gather_fields-loop-field : goal.invariant-gather::gather_fields-loop-field
invariant-gather::gather_fields-loop-field l = record {
  many : length l.parts.items ≡ l.field-index;
  each : (k : ℕ) (d : Layout) → k < l.field-index → Picks (get_or l.fields.items k d) (get_or l.parts.items k d) (length l.positions) (λ i. get_or l.positions i 0);
}
