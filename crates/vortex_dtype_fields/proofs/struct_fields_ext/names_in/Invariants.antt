use Rattle.std.proofs.Common.{◌≡◌, ◌++◌, drop}
use Rattle.vortex_dtype_core.specs.View.{fields_of}
use Rattle.vortex_dtype_fields.specs.Records.{names_of}
use Rattle.vortex_dtype_fields.proofs.struct_fields_ext.names_in.Given as goal

abbrev pub invariant-loop-field : goal.invariant-loop-field
invariant-loop-field l = l.names.items ++ names_of (fields_of (drop l.field-index l.fields)) ≡ names_of (fields_of l.fields)
