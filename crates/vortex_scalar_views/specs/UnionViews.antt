-- Views of unions and of `Variant` values in the model: a type and a value of it.
use Rattle.vortex_dtype_core.specs.View.{type_of}
use Rattle.vortex_scalar_value.specs.View.{raw_at}
use Rattle.vortex_scalar_views.specs.Forms.{Typed}
use Rattle.vortex_scalar_views.specs.declared.union_scalar.UnionScalar.{UnionScalar}
use Rattle.vortex_scalar_views.specs.declared.variant_scalar.VariantScalar.{VariantScalar}

abbrev pub typed_union : UnionScalar → Typed
typed_union v = (type_of v.dtype.now, raw_at v.value)

abbrev pub typed_variant : VariantScalar → Typed
typed_variant v = (type_of v.dtype.now, raw_at v.stored)
