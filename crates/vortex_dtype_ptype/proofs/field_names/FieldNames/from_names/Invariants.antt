use Rattle.std.proofs.Common.{◌≡◌, map, take}
use Rattle.vortex_dtype_ptype.proofs.field_names.FieldNames.from_names.Given as goal

abbrev pub invariant-loop-name : goal.invariant-loop-name
invariant-loop-name l = l.made.items ≡ map (λ name. name.now) (take l.name-index l.names)
