-- Views with parts in the model: a type and a value of it.
use Rattle.vortex_dtype_core.specs.View.{type_of}
use Rattle.vortex_scalar_value.specs.View.{raw_at}
use Rattle.vortex_scalar_views.specs.Forms.{Typed}
use Rattle.vortex_scalar_nested.specs.declared.list_scalar.ListScalar.{ListScalar}
use Rattle.vortex_scalar_nested.specs.declared.map_scalar.MapScalar.{MapScalar}
use Rattle.vortex_scalar_nested.specs.declared.struct_scalar.StructScalar.{StructScalar}
use Rattle.vortex_scalar_nested.specs.declared.ext_scalar.ExtScalar.{ExtScalar}

abbrev pub typed_list : ListScalar → Typed
typed_list v = (type_of v.dtype.now, raw_at v.value)

abbrev pub typed_struct : StructScalar → Typed
typed_struct v = (type_of v.dtype.now, raw_at v.value)

abbrev pub typed_map : MapScalar → Typed
typed_map v = (type_of v.dtype.now, raw_at v.value)

abbrev pub typed_extension : ExtScalar → Typed
typed_extension v = (type_of v.dtype.now, raw_at v.value)
