-- Scalars in the model.
use Rattle.vortex_model.specs.LogicalType.{LogicalType}
use Rattle.vortex_model.specs.Content.{Content, Raw}
use Rattle.vortex_dtype_core.specs.View.{type_of}
use Rattle.vortex_scalar_value.specs.View.{raw_in, content_in}
use Rattle.vortex_scalar_core.specs.declared.scalar.Scalar.{Scalar}

abbrev pub scalar_type : Scalar → LogicalType
scalar_type s = type_of s.dtype

abbrev pub scalar_raw : Scalar → Raw
scalar_raw s = raw_in s.value

abbrev pub scalar_content : Scalar → Content
scalar_content s = content_in s.value
