use Rattle.std.proofs.Common.{◌≡◌, map, take}
use Rattle.vortex_dtype_core.specs.View.{field_of, named_type}
use Rattle.vortex_dtype_core.proofs.struct_fields.StructFields.from_pairs.Given as goal

abbrev pub invariant-loop-pair : goal.invariant-loop-pair
invariant-loop-pair l = map field_of l.fields.items ≡ map named_type (take l.pair-index l.pairs)
