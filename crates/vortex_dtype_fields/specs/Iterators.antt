-- What the iterators have left.
use Rattle.std.specs.Prelude.{List, map}
use Rattle.vortex_dtype_core.specs.declared.dtype.DType.{DType}
use Rattle.vortex_dtype_fields.specs.declared.field_dtype.FieldDType.{FieldDType}
use Rattle.vortex_dtype_fields.specs.declared.field_dtype.FieldTypesIter.{FieldTypesIter}
use Rattle.vortex_dtype_fields.specs.declared.field_dtype.FieldDTypesIter.{FieldDTypesIter}
use Rattle.vortex_dtype_fields.specs.declared.variants_iter.VariantsIter.{VariantsIter}

-- the type of the field
abbrev pub value_of : FieldDType → DType
value_of f = f.dtype.now

-- the types of fields that are left
abbrev pub types_left : FieldTypesIter → List DType
types_left rest = map (λ f. f.dtype) rest.fields.now

abbrev pub dtypes_left : FieldDTypesIter → List DType
dtypes_left rest = types_left rest.types

-- the types of variants that are left
abbrev pub variants_left : VariantsIter → List DType
variants_left rest = map (λ v. v.dtype) rest.variants.now
