-- Which refusal an error is, and the names of both.
use Rattle.std.specs.Prelude.{◌≡◌, ℕ, List, [], Option, Some, None, ⊤, codes}
use Rattle.vortex_model.specs.Refusal.{Refusal, not_a_record, unkept_type, repeated_name, invalid_value, not_convertible, total_passed, no_such_group, unknown_path, element_step, placeholder, unknown_column, not_a_leaf, unequal_types, not_boolean, unsupported_like, no_table, unsupported_predicate, repeated_path}
use Rattle.vortex_table_schema.specs.declared.error.TableError.{TableError}
use Rattle.vortex_table_schema.specs.declared.error.TableError.TheVariants as error

-- That memory ran out and a total past the limit are no refusals, nor is the fault of a caller's
-- rule, which no command has.
abbrev pub refusal_of : TableError → Option Refusal
refusal_of error.Memory = None
refusal_of error.NotARecord = Some not_a_record
refusal_of error.UnkeptType = Some unkept_type
refusal_of error.RepeatedName = Some repeated_name
refusal_of (error.InvalidValue i) = Some (invalid_value i)
refusal_of (error.NotConvertible i) = Some (not_convertible i)
refusal_of error.Total = None
refusal_of error.NoSuchGroup = Some no_such_group
refusal_of (error.UnknownPath i) = Some (unknown_path i)
refusal_of (error.ElementStep i) = Some (element_step i)
refusal_of error.Placeholder = Some placeholder
refusal_of error.UnknownColumn = Some unknown_column
refusal_of error.NotALeaf = Some not_a_leaf
refusal_of error.UnequalTypes = Some unequal_types
refusal_of error.NotBoolean = Some not_boolean
refusal_of error.UnsupportedLike = Some unsupported_like
refusal_of error.RuleFault = None
refusal_of error.UnsupportedPredicate = Some unsupported_predicate
refusal_of (error.RepeatedPath i) = Some (repeated_path i)

abbrev pub name_of : Refusal → List ℕ
name_of not_a_record = codes "NotARecord"
name_of unkept_type = codes "UnkeptType"
name_of repeated_name = codes "RepeatedName"
name_of (invalid_value i) = codes "InvalidValue"
name_of (not_convertible i) = codes "NotConvertible"
name_of total_passed = codes "Total"
name_of no_such_group = codes "NoSuchGroup"
name_of (unknown_path i) = codes "UnknownPath"
name_of (element_step i) = codes "ElementStep"
name_of placeholder = codes "Placeholder"
name_of unknown_column = codes "UnknownColumn"
name_of not_a_leaf = codes "NotALeaf"
name_of unequal_types = codes "UnequalTypes"
name_of not_boolean = codes "NotBoolean"
name_of unsupported_like = codes "UnsupportedLike"
name_of no_table = codes "NoTable"
name_of unsupported_predicate = codes "UnsupportedPredicate"
name_of (repeated_path i) = codes "RepeatedPath"

-- the name of an error, which is that of its refusal
abbrev pub error_name : TableError → List ℕ
error_name error.Memory = codes "Memory"
error_name error.Total = codes "Total"
error_name error.RuleFault = codes "RuleFault"
error_name e = elim (refusal_of e) [ None ↦ [] | Some r ↦ name_of r ]

-- Memory ran out, a total passes the limit, or the error is the refusal.
abbrev pub Explains : Type 0 → Option Refusal → TableError → Type 0
Explains Passes fault error.Memory = ⊤
Explains Passes fault error.Total = Passes
Explains Passes fault error.RuleFault = ⊥
Explains Passes fault e = fault ≡ refusal_of e
