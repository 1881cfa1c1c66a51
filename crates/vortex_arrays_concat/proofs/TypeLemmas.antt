-- Which types have a plain layout.
use Rattle.std.proofs.Common.{◌≡◌, ◌&&◌, true, List, ◌∷◌, refl, ap, ◌∙◌}
use Rattle.std.proofs.lemmas.Bool.{and_parts}
use Rattle.vortex_model.specs.LogicalType.{LogicalType, boolean_type, integer_type, utf8, binary, list, fixed_list, struct, Fields, no_fields, field, Nullability}
use Rattle.vortex_dtype_ptype.specs.Numbers.{NumberKind, integral, floating, type_of_numbers, is_integral}
use Rattle.vortex_dtype_core.specs.View.{type_of, fields_of}
use Rattle.vortex_dtype_core.specs.declared.struct_fields.StructField.{StructField}
use Rattle.vortex_dtype_core.proofs.Views.{one_level, field_of-parts, extension_type-parts}
use Rattle.vortex_arrays_builder.specs.Types.{HasPlain, HavePlain}
use Rattle.vortex_arrays_concat.specs.PlainTypes.{has_plain, have_plain}

pub first_part : (f : StructField) (fs : List StructField) → have_plain (fields_of (f ∷ fs)) ≡ has_plain (type_of f.dtype) && have_plain (fields_of fs)
first_part f fs = ap (λ p. has_plain p.1 && have_plain (fields_of fs)) (field_of-parts f)

pub of_numbers : (k : NumberKind) (n : Nullability) → has_plain (type_of_numbers k n) ≡ is_integral k
of_numbers (integral i) n = refl
of_numbers (floating f) n = refl

pub ruleset parts = (one_level, extension_type-parts, first_part, of_numbers)

mutual
  pub plain_so : (k : LogicalType) → has_plain k ≡ true → HasPlain k
  plain_so (boolean_type n) h = tt
  plain_so (integer_type i n) h = tt
  plain_so (utf8 n) h = tt
  plain_so (binary n) h = tt
  plain_so (list k n) h = plain_so k h
  plain_so (fixed_list k m n) h = plain_so k h
  plain_so (struct fs n) h = plain_fields fs h
  plain_so k h = absurd (cc h)

  plain_fields : (fs : Fields) → have_plain fs ≡ true → HavePlain fs
  plain_fields no_fields h = tt
  plain_fields (field x k fs) h = let p = and_parts (has_plain k) (have_plain fs) h in (plain_so k p.0, plain_fields fs p.1)

mutual
  pub so_plain : (k : LogicalType) → HasPlain k → has_plain k ≡ true
  so_plain (boolean_type n) h = refl
  so_plain (integer_type i n) h = refl
  so_plain (utf8 n) h = refl
  so_plain (binary n) h = refl
  so_plain (list k n) h = so_plain k h
  so_plain (fixed_list k m n) h = so_plain k h
  so_plain (struct fs n) h = fields_so fs h
  so_plain k h = absurd h

  fields_so : (fs : Fields) → HavePlain fs → have_plain fs ≡ true
  fields_so no_fields h = refl
  fields_so (field x k fs) h = ap (λ b. b && have_plain fs) (so_plain k h.0) ∙ fields_so fs h.1
