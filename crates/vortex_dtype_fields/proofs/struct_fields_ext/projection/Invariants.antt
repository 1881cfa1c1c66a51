use Rattle.std.proofs.Common.{◌≡◌, map, drop, []}
use Rattle.vortex_dtype_core.specs.View.{field_of, fields_in}
use Rattle.vortex_dtype_fields.proofs.Projections.{projected_onto}
use Rattle.vortex_dtype_fields.proofs.struct_fields_ext.projection.Given as goal

abbrev pub invariant-loop-name : goal.invariant-loop-name
invariant-loop-name l = projected_onto (map field_of l.all.items) (fields_in l.fields) (drop l.name-index l.names) ≡ projected_onto [] (fields_in l.fields) l.names
