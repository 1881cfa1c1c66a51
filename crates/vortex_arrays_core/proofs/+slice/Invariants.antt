use Rattle.std.proofs.Common.{◌≡◌, ◌<◌, ℕ, length, get_or, map, take, ◌+◌, ◌-◌, ◌*◌}
use Rattle.vortex_arrays_model.specs.Layout.{Layout, size_of, valid_size, columns_size}
use Rattle.vortex_arrays_model.specs.Parts.{columns_of}
use Rattle.vortex_arrays_model.specs.Picks.{Picks}
use Rattle.vortex_arrays_core.specs.Flags.{flags_of}
use Rattle.vortex_arrays_core.specs.LayoutOf.{valid_of}
use Rattle.vortex_arrays_core.proofs.+slice.Given as goal

abbrev pub decreases-array::ArrayRef::rows_between : goal.decreases-array::ArrayRef::rows_between
decreases-array::ArrayRef::rows_between l = 2 * size_of l.self.now + 1

abbrev pub decreases-array::Validity::rows_between : goal.decreases-array::Validity::rows_between
decreases-array::Validity::rows_between l = 2 * valid_size (valid_of l.self.now) + 2

abbrev pub decreases-slice::fields_between : goal.decreases-slice::fields_between
decreases-slice::fields_between l = 2 * columns_size (columns_of l.names.now l.fields.now.items) + 2

abbrev pub invariant-slice::fields_between-loop-field : goal.invariant-slice::fields_between-loop-field
invariant-slice::fields_between-loop-field l = record {
  many : length l.parts.items ≡ l.field-index;
  each : (k : ℕ) (d : Layout) → k < l.field-index → Picks (get_or l.fields.items k d) (get_or l.parts.items k d) (l.end - l.start) (λ i. l.start + i);
  flags : map flags_of l.parts.items ≡ map flags_of (take l.field-index l.fields.items);
}
