pub use Rattle.vortex_model.specs.Kept as ModelKept
pub use Rattle.vortex_model.specs.LogicalType
pub use Rattle.vortex_model.specs.Path
pub use Rattle.vortex_model.specs.Valid as ModelValid
pub use Rattle.vortex_dtype_ptype.specs.Numbers as DtypePtypeNumbers
pub use Rattle.vortex_dtype_ptype.specs.View as DtypePtypeView
pub use Rattle.vortex_dtype_ptype.specs.declared.error.DTypeError
pub use Rattle.vortex_dtype_decimal.specs.DecimalValues
pub use Rattle.vortex_dtype_decimal.specs.declared.decimal_type.DecimalType
pub use Rattle.vortex_dtype_core.specs.Parts as DtypeCoreParts
pub use Rattle.vortex_dtype_core.specs.View as DtypeCoreView
pub use Rattle.vortex_dtype_native.specs.NativeBytes
pub use Rattle.vortex_dtype_path.specs.Coverage
pub use Rattle.vortex_dtype_path.specs.Laws as DtypePathLaws
pub use Rattle.vortex_dtype_path.specs.Masks
pub use Rattle.vortex_dtype_path.specs.Resolve
pub use Rattle.vortex_dtype_path.specs.Sets as DtypePathSets
pub use Rattle.vortex_dtype_path.specs.Steps
pub use Rattle.vortex_dtype_path.specs.Tree as DtypePathTree
pub use Rattle.vortex_dtype_path.specs.View as DtypePathView
pub use Rattle.vortex_dtype_path.specs.declared.path.FieldPath
pub use Rattle.vortex_dtype_fields.specs.Hashing as DtypeFieldsHashing
pub use Rattle.vortex_dtype_fields.specs.Iterators as DtypeFieldsIterators
pub use Rattle.vortex_dtype_fields.specs.Laws as DtypeFieldsLaws
pub use Rattle.vortex_dtype_fields.specs.Records as DtypeFieldsRecords
pub use Rattle.vortex_dtype_fields.specs.Widths
pub use Rattle.vortex_dtype_proto.specs.Laws as DtypeProtoLaws
pub use Rattle.vortex_dtype_proto.specs.Messages
pub use Rattle.vortex_dtype_proto.specs.Sessions
pub use Rattle.vortex_dtype_proto.specs.Shapes as DtypeProtoShapes
pub use Rattle.vortex_dtype_proto.specs.View as DtypeProtoView
