-- Views and scalars in the model: a type and a value of it.
use Rattle.std.specs.Prelude.{option_copied}
use Rattle.vortex_dtype_core.specs.View.{type_of}
use Rattle.vortex_scalar_core.specs.Scalar.{scalar_type, scalar_raw}
use Rattle.vortex_scalar_core.specs.declared.scalar.Scalar.{Scalar}
use Rattle.vortex_scalar_views.specs.Forms.{Typed, raw_of_boolean, raw_of_integer, raw_of_text, raw_of_bytes}
use Rattle.vortex_scalar_views.specs.declared.bool_scalar.BoolScalar.{BoolScalar}
use Rattle.vortex_scalar_views.specs.declared.primitive_scalar.PrimitiveScalar.{PrimitiveScalar}
use Rattle.vortex_scalar_views.specs.declared.utf8_scalar.Utf8Scalar.{Utf8Scalar}
use Rattle.vortex_scalar_views.specs.declared.binary_scalar.BinaryScalar.{BinaryScalar}

abbrev pub typed_scalar : Scalar → Typed
typed_scalar s = (scalar_type s, scalar_raw s)

abbrev pub typed_bool : BoolScalar → Typed
typed_bool v = (type_of v.dtype.now, raw_of_boolean v.value)

abbrev pub typed_primitive : PrimitiveScalar → Typed
typed_primitive v = (type_of v.dtype.now, raw_of_integer v.pvalue)

abbrev pub typed_utf8 : Utf8Scalar → Typed
typed_utf8 v = (type_of v.dtype.now, raw_of_text (option_copied v.value))

abbrev pub typed_binary : BinaryScalar → Typed
typed_binary v = (type_of v.dtype.now, raw_of_bytes (option_copied v.value))
