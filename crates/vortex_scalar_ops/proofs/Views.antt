-- Validity of a value, form by form.
use Rattle.std.proofs.Math.Bool.{and-false, true-and, false-and}
use Rattle.std.proofs.Common.{◌≡◌, ◌≢◌, sym, false, suc, List, [], ◌∷◌, length, Option, refl, ap}
use Rattle.vortex_model.specs.LogicalType.{LogicalType, Nullability, null_only, boolean_type, integer_type, float, decimal, utf8, binary, list, fixed_list, mapping, struct, union, variant, extension, stored, is_nullable, nullability_of}
use Rattle.vortex_model.specs.Content.{raw_null, raw_tuple, Raws}
use Rattle.vortex_model.specs.Valid.{has, fields_have}
use Rattle.vortex_dtype_ptype.specs.Numbers.{NumberKind, integral, floating, type_of_numbers}
use Rattle.vortex_dtype_core.specs.View.{fields_of}
use Rattle.vortex_dtype_core.specs.declared.struct_fields.StructField.{StructField}
use Rattle.vortex_dtype_core.proofs.Views as types
use Rattle.vortex_scalar_value.specs.View.{raws_in}
use Rattle.vortex_scalar_value.specs.declared.scalar_value.ScalarValue.{ScalarValue}
use Rattle.vortex_scalar_value.proofs.Nulls.{never_null}
use Rattle.vortex_scalar_value.proofs.Views.{one_level}
use Rattle.vortex_scalar_ops.proofs.LeafValues.{has-boolean}

-- null is valid by the outer nullability, also under an extension
pub has-null : (k : LogicalType) → has (stored k) raw_null ≡ is_nullable (nullability_of k)
has-null null_only = refl
has-null (boolean_type n) = refl
has-null (integer_type i n) = refl
has-null (float f n) = refl
has-null (decimal p s n) = refl
has-null (utf8 n) = refl
has-null (binary n) = refl
has-null (list k n) = refl
has-null (fixed_list k m n) = refl
has-null (mapping k v s n) = refl
has-null (struct fs n) = refl
has-null (union vs n) = refl
has-null (variant n) = refl
has-null (extension id meta k) = has-null k

pub ruleset nulls = (never_null, has-null)

pub unequal_lengths : (fs : List StructField) (vs : List (Option ScalarValue)) → length fs ≢ length vs → false ≡ fields_have (fields_of fs) (raws_in vs)
unequal_lengths [] [] n = absurd (n refl)
unequal_lengths [] (v ∷ vs) n = refl
unequal_lengths (f ∷ fs) [] n = refl
unequal_lengths (f ∷ fs) (v ∷ vs) n = rw (← unequal_lengths fs vs (λ e. n (ap suc e))) (sym (and-false _))

pub no_tuple_in_numbers : (k : NumberKind) (n : Nullability) (rs : Raws) → has (type_of_numbers k n) (raw_tuple rs) ≡ false
no_tuple_in_numbers (integral i) n rs = refl
no_tuple_in_numbers (floating f) n rs = refl

pub ruleset valid_values = (one_level, has-null, has-boolean)

pub ruleset valid_tuples = (types.one_level, one_level, no_tuple_in_numbers, types.extension_type-parts, true-and, false-and)

pub ruleset valid_fields = (types.one_level, types.field_of-parts, one_level, unequal_lengths, true-and, false-and)
