use Rattle.std.proofs.Common.{◌≡◌, ◌<◌, ◌+◌, ◌^◌, drop}
use Rattle.vortex_dtype_core.specs.View.{type_of, fields_of}
use Rattle.vortex_dtype_fields.specs.Widths.{are_countable, bytes_of_fields}
use Rattle.vortex_dtype_core.proofs.Sizes.{type_size, fields_size}
use Rattle.vortex_dtype_fields.proofs.widths.+bytes.Given as goal

abbrev pub decreases-counted_bytes : goal.decreases-counted_bytes
decreases-counted_bytes l = type_size (type_of l.dtype.now)

abbrev pub decreases-counted_bytes_of_fields : goal.decreases-counted_bytes_of_fields
decreases-counted_bytes_of_fields l = fields_size (fields_of l.fields.now)

abbrev pub invariant-counted_bytes_of_fields-loop-field : goal.invariant-counted_bytes_of_fields-loop-field
invariant-counted_bytes_of_fields-loop-field l = record {
  sum : l.all + bytes_of_fields (fields_of (drop l.field-index l.fields)) ≡ bytes_of_fields (fields_of l.fields);
  small : l.all < 2 ^ 64;
  left : are_countable (fields_of (drop l.field-index l.fields)) ≡ are_countable (fields_of l.fields);
}
