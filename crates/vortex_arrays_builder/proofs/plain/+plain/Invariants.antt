use Rattle.std.proofs.Common.{map}
use Rattle.vortex_dtype_core.specs.View.{type_of, fields_of}
use Rattle.vortex_dtype_core.proofs.Sizes.{type_size, fields_size}
use Rattle.vortex_scalar_value.specs.View.{raw_at, content_at}
use Rattle.vortex_arrays_builder.proofs.RecordLemmas.{FirstPlain}
use Rattle.vortex_arrays_builder.proofs.TooLargeLemmas.{NoneTooLarge}
use Rattle.vortex_arrays_builder.proofs.plain.+plain.Given as goal

abbrev pub decreases-plain_of : goal.decreases-plain_of
decreases-plain_of l = type_size (type_of l.dtype.now)

abbrev pub decreases-field_arrays : goal.decreases-field_arrays
decreases-field_arrays l = fields_size (fields_of l.fields.now)

abbrev pub invariant-field_arrays-loop-i : goal.invariant-field_arrays-loop-i
invariant-field_arrays-loop-i l =
    FirstPlain l.fields l.i (map raw_at l.values) l.arrays.items × NoneTooLarge l.fields l.i (map content_at l.values)
