-- Equality of views without parts.
use Rattle.std.specs.Prelude.{ℕ, ℤ, List, Bool, Option, nat_eq}
use Rattle.std.specs.Option.{option_eq}
use Rattle.std.specs.Ordering.{on, eq_of_both, int_eq}
use Rattle.std.specs.Cmp.Lexicographic.{pointwise}
use Rattle.std.proofs.Math.Bool.{beq}
use Rattle.vortex_model.specs.LogicalType.{LogicalType, equal_ignoring_nullability}
use Rattle.vortex_scalar_value.specs.Parts.{boolean_in, whole_number_in, text_in, byte_string_in}
use Rattle.vortex_scalar_views.specs.Views.{typed_bool, typed_primitive, typed_utf8, typed_binary}
use Rattle.vortex_scalar_views.specs.declared.bool_scalar.BoolScalar.{BoolScalar}
use Rattle.vortex_scalar_views.specs.declared.primitive_scalar.PrimitiveScalar.{PrimitiveScalar}
use Rattle.vortex_scalar_views.specs.declared.utf8_scalar.Utf8Scalar.{Utf8Scalar}
use Rattle.vortex_scalar_views.specs.declared.binary_scalar.BinaryScalar.{BinaryScalar}

abbrev pub bool_of_view : BoolScalar → Option Bool
bool_of_view v = boolean_in (typed_bool v).1

abbrev pub numbers_type : PrimitiveScalar → LogicalType
numbers_type v = (typed_primitive v).0

abbrev pub number_of_view : PrimitiveScalar → Option ℤ
number_of_view v = whole_number_in (typed_primitive v).1

abbrev pub text_of_view : Utf8Scalar → Option (List ℕ)
text_of_view v = text_in (typed_utf8 v).1

abbrev pub bytes_of_view : BinaryScalar → Option (List ℕ)
bytes_of_view v = byte_string_in (typed_binary v).1

-- both are null, or both have equal values
abbrev pub eq_booleans : BoolScalar → BoolScalar → Bool
eq_booleans = on bool_of_view (option_eq beq)

abbrev pub eq_texts : Utf8Scalar → Utf8Scalar → Bool
eq_texts = on text_of_view (option_eq (pointwise nat_eq))

abbrev pub eq_bytes : BinaryScalar → BinaryScalar → Bool
eq_bytes = on bytes_of_view (option_eq (pointwise nat_eq))

-- the types are equal up to nullability, and both are null, or both have equal integers
abbrev pub eq_numbers : PrimitiveScalar → PrimitiveScalar → Bool
eq_numbers =
    eq_of_both (on numbers_type equal_ignoring_nullability) (on number_of_view (option_eq int_eq))
