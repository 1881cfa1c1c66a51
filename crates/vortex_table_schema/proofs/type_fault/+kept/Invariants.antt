use Rattle.std.proofs.Common.{◌≡◌, drop}
use Rattle.vortex_model.specs.Kept.{fields_fault}
use Rattle.vortex_dtype_core.specs.View.{fields_of}
use Rattle.vortex_table_schema.proofs.type_fault.+kept.Given as goal

abbrev pub invariant-fields_fault-loop-field : goal.invariant-fields_fault-loop-field
invariant-fields_fault-loop-field l = fields_fault (fields_of (drop l.field-index l.fields)) ≡ fields_fault (fields_of l.fields)
