use Rattle.std.proofs.Common.{◌≡◌, map, take}
use Rattle.vortex_dtype_core.specs.View.{type_of}
use Rattle.vortex_dtype_fields.specs.Iterators.{value_of}
use Rattle.vortex_dtype_fields.proofs.struct_fields_ext.values.Given as goal

abbrev pub invariant-loop-dtype : goal.invariant-loop-dtype
invariant-loop-dtype l = map type_of l.values.items ≡ map (λ dtype. type_of (value_of dtype)) (take l.dtype-index l.dtype-items)
