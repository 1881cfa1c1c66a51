-- Order and hash of views without parts. Null is least.
use Rattle.std.specs.Prelude.{ℕ, List, if◌then◌else◌, Option, Some, None}
use Rattle.std.specs.Option.{option_cmp}
use Rattle.std.specs.declared.cmp.Ordering.{Ordering}
use Rattle.std.specs.Ordering.{on, nat_cmp, int_cmp, bool_cmp}
use Rattle.std.specs.Cmp.Lexicographic.{slice_cmp}
use Rattle.std.specs.Hash as fed
use Rattle.vortex_model.specs.LogicalType.{equal_ignoring_nullability}
use Rattle.vortex_scalar_views.specs.Equal.{bool_of_view, numbers_type, number_of_view, text_of_view, bytes_of_view}
use Rattle.vortex_scalar_views.specs.declared.bool_scalar.BoolScalar.{BoolScalar}
use Rattle.vortex_scalar_views.specs.declared.primitive_scalar.PrimitiveScalar.{PrimitiveScalar}
use Rattle.vortex_scalar_views.specs.declared.utf8_scalar.Utf8Scalar.{Utf8Scalar}
use Rattle.vortex_scalar_views.specs.declared.binary_scalar.BinaryScalar.{BinaryScalar}

-- false is below true
abbrev pub booleans_cmp : BoolScalar → BoolScalar → Ordering
booleans_cmp = on bool_of_view (option_cmp bool_cmp)

-- in lexicographic order of bytes
abbrev pub texts_cmp : Utf8Scalar → Utf8Scalar → Ordering
texts_cmp = on text_of_view (option_cmp (slice_cmp nat_cmp))

abbrev pub bytes_cmp : BinaryScalar → BinaryScalar → Ordering
bytes_cmp = on bytes_of_view (option_cmp (slice_cmp nat_cmp))

-- in numeric order, where the types are equal up to nullability
abbrev pub numbers_cmp : PrimitiveScalar → PrimitiveScalar → Option Ordering
numbers_cmp v w = if equal_ignoring_nullability (numbers_type v) (numbers_type w)
    then Some (option_cmp int_cmp (number_of_view v) (number_of_view w)) else None

-- the writes don't depend on the type
abbrev pub boolean_writes : BoolScalar → List (List ℕ)
boolean_writes v = fed.option fed.bool (bool_of_view v)

abbrev pub number_writes : PrimitiveScalar → List (List ℕ)
number_writes v = fed.option fed.i128 (number_of_view v)

abbrev pub text_writes : Utf8Scalar → List (List ℕ)
text_writes v = fed.option fed.str (text_of_view v)

abbrev pub bytes_writes : BinaryScalar → List (List ℕ)
bytes_writes v = fed.option (fed.slice fed.u8) (bytes_of_view v)
