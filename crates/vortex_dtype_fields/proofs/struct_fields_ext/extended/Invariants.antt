use Rattle.std.proofs.Common.{◌≡◌, ◌++◌, map, take}
use Rattle.vortex_dtype_core.specs.View.{field_of}
use Rattle.vortex_dtype_fields.proofs.struct_fields_ext.extended.Given as goal

abbrev pub invariant-loop-field : goal.invariant-loop-field
invariant-loop-field l = map field_of l.both.items ≡ map field_of l.fn.all.items ++ map field_of (take l.field-index l.more)
