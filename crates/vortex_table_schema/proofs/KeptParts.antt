-- What a table can hold, part by part.
use Rattle.std.proofs.Common.{◌≡◌, refl, ap, sym, ◌∙◌, Bool, true, false, not, Some, None, List, ◌∷◌, if◌then◌else◌}
use Rattle.vortex_model.specs.LogicalType.{struct, Fields, Nullability, non_nullable}
use Rattle.vortex_model.specs.Refusal.{not_a_record, unkept_type, repeated_name, or_else}
use Rattle.vortex_model.specs.Kept.{type_fault, part_fault, fields_fault, names_distinct}
use Rattle.vortex_dtype_ptype.specs.Numbers.{NumberKind, integral, floating, type_of_numbers, is_real}
use Rattle.vortex_dtype_core.specs.View.{type_of, fields_of}
use Rattle.vortex_dtype_core.specs.declared.struct_fields.StructField.{StructField}
use Rattle.vortex_dtype_core.proofs.Views.{one_level, field_of-parts, extension_type-parts}
use Rattle.vortex_table_schema.specs.Fault.{fault_of_numbers}

-- the first of these parts goes before the others
pub first_part : (f : StructField) (fs : List StructField) → fields_fault (fields_of (f ∷ fs)) ≡ or_else (part_fault (type_of f.dtype)) (fields_fault (fields_of fs))
first_part f fs = ap (λ p. or_else (part_fault p.1) (fields_fault (fields_of fs))) (field_of-parts f)

pub names_repeat : (fs : Fields) (b : Bool) → b ≡ not (names_distinct fs) → b ≡ true → part_fault (struct fs non_nullable) ≡ Some repeated_name
names_repeat fs b e h = by_test (names_distinct fs) (sym h ∙ e)
  where
    by_test : (d : Bool) → true ≡ not d → (if d then fields_fault fs else Some repeated_name) ≡ Some repeated_name
    by_test false g = refl
    by_test true g = absurd (cc (g))

pub names_differ : (fs : Fields) (b : Bool) → b ≡ not (names_distinct fs) → b ≡ false → part_fault (struct fs non_nullable) ≡ fields_fault fs
names_differ fs b e h = by_test (names_distinct fs) (sym h ∙ e)
  where
    by_test : (d : Bool) → false ≡ not d → (if d then fields_fault fs else Some repeated_name) ≡ fields_fault fs
    by_test true g = refl
    by_test false g = absurd (cc (g))

-- numbers are no record
pub numbers_at_root : (k : NumberKind) (n : Nullability) → type_fault (type_of_numbers k n) ≡ Some not_a_record
numbers_at_root (integral i) n = refl
numbers_at_root (floating f) n = refl

-- a part of numbers is kept where they are integers
pub numbers_in_part : (k : NumberKind) (n : Nullability) → part_fault (type_of_numbers k n) ≡ fault_of_numbers k
numbers_in_part (integral i) n = refl
numbers_in_part (floating f) n = refl

-- what a part of numbers has for a fault
pub real_fault : (k : NumberKind) → is_real k ≡ true → Some unkept_type ≡ fault_of_numbers k
real_fault (integral i) h = absurd (cc (h))
real_fault (floating f) h = refl

pub whole_fault : (k : NumberKind) → is_real k ≡ false → None ≡ fault_of_numbers k
whole_fault (integral i) h = refl
whole_fault (floating f) h = absurd (cc (h))

pub ruleset roots = (one_level, extension_type-parts, numbers_at_root)

pub ruleset parts = (one_level, extension_type-parts, first_part, names_repeat, names_differ, numbers_in_part)
