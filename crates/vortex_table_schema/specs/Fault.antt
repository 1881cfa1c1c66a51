-- The model's refusals of the faults of types.
use Rattle.std.specs.Prelude.{Option, Some, None}
use Rattle.vortex_model.specs.Refusal.{Refusal, not_a_record, unkept_type, repeated_name}
use Rattle.vortex_dtype_ptype.specs.Numbers.{NumberKind, integral, floating}
use Rattle.vortex_table_schema.specs.declared.type_fault.TypeFault.{TypeFault}
use Rattle.vortex_table_schema.specs.declared.type_fault.TypeFault.TheVariants as fault

abbrev pub refusal_of_fault : TypeFault → Refusal
refusal_of_fault fault.NotARecord = not_a_record
refusal_of_fault fault.UnkeptType = unkept_type
refusal_of_fault fault.RepeatedName = repeated_name

-- a table holds integers and no floats
abbrev pub fault_of_numbers : NumberKind → Option Refusal
fault_of_numbers (integral i) = None
fault_of_numbers (floating f) = Some unkept_type
