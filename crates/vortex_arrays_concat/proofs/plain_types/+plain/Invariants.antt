use Rattle.std.proofs.Common.{◌≡◌, drop}
use Rattle.vortex_dtype_core.specs.View.{fields_of}
use Rattle.vortex_arrays_concat.specs.PlainTypes.{have_plain}
use Rattle.vortex_arrays_concat.proofs.plain_types.+plain.Given as goal

abbrev pub invariant-have_plain-loop-field : goal.invariant-have_plain-loop-field
invariant-have_plain-loop-field l = have_plain (fields_of (drop l.field-index l.fields)) ≡ have_plain (fields_of l.fields)
