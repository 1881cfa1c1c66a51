use Rattle.std.proofs.Common.{sym, ◌∙◌}
use Rattle.vortex_dtype_ptype.specs.View.{number_kind_of}
use Rattle.vortex_table_schema.proofs.KeptParts.{real_fault, whole_fault}
use Rattle.vortex_table_schema.proofs.type_fault.number_fault.Goals as goal

pub returns-then-is_float : goal.returns-then-is_float
returns-then-is_float c = real_fault (number_kind_of c.args.ptype) (sym c.is_float.ensures ∙ c.if-is_float.true)

pub returns : goal.returns
returns c = whole_fault (number_kind_of c.args.ptype) (sym c.is_float.ensures ∙ c.if-is_float.false)
