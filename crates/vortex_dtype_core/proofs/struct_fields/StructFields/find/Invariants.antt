use Rattle.std.proofs.Common.{◌≡◌, drop}
use Rattle.vortex_model.specs.Path.{position_named}
use Rattle.vortex_dtype_core.specs.View.{fields_of}
use Rattle.vortex_dtype_core.proofs.Views.{position_from}
use Rattle.vortex_dtype_core.proofs.struct_fields.StructFields.find.Given as goal

abbrev pub invariant-loop-position : goal.invariant-loop-position
invariant-loop-position l = position_from l.position (fields_of (drop l.position l.fields)) l.name ≡ position_named (fields_of l.fields) l.name
