pub use Rattle.vortex_model.specs.Content
pub use Rattle.vortex_model.specs.Convert
pub use Rattle.vortex_model.specs.LogicalType
pub use Rattle.vortex_model.specs.Order as ModelOrder
pub use Rattle.vortex_model.specs.Valid as ModelValid
pub use Rattle.vortex_model_table.specs.Bounds as ModelTableBounds
pub use Rattle.vortex_dtype_ptype.specs.Numbers as DtypePtypeNumbers
pub use Rattle.vortex_dtype_ptype.specs.View as DtypePtypeView
pub use Rattle.vortex_dtype_core.specs.Parts as DtypeCoreParts
pub use Rattle.vortex_dtype_core.specs.View as DtypeCoreView
pub use Rattle.vortex_dtype_native.specs.NativeBytes
pub use Rattle.vortex_dtype_fields.specs.Records as DtypeFieldsRecords
pub use Rattle.vortex_scalar_value.specs.Errors as ScalarValueErrors
pub use Rattle.vortex_scalar_value.specs.Numbers as ScalarValueNumbers
pub use Rattle.vortex_scalar_value.specs.Parts as ScalarValueParts
pub use Rattle.vortex_scalar_value.specs.View as ScalarValueView
pub use Rattle.vortex_scalar_value.specs.declared.error.ScalarError
pub use Rattle.vortex_scalar_ops.specs.Equality as ScalarOpsEquality
pub use Rattle.vortex_scalar_ops.specs.Hashing as ScalarOpsHashing
pub use Rattle.vortex_scalar_ops.specs.Laws as ScalarOpsLaws
pub use Rattle.vortex_scalar_ops.specs.Native
pub use Rattle.vortex_scalar_ops.specs.Rows
pub use Rattle.vortex_scalar_core.specs.Equality as ScalarCoreEquality
pub use Rattle.vortex_scalar_core.specs.Reinterpreted as ScalarCoreReinterpreted
pub use Rattle.vortex_scalar_core.specs.Scalar
pub use Rattle.vortex_scalar_convert.specs.Laws as ScalarConvertLaws
pub use Rattle.vortex_scalar_convert.specs.Reading as ScalarConvertReading
pub use Rattle.vortex_scalar_convert.specs.defaults.Laws as ScalarConvertDefaultsLaws
pub use Rattle.vortex_scalar_convert.specs.defaults.Zero
pub use Rattle.vortex_scalar_views.specs.Choices as ScalarViewsChoices
pub use Rattle.vortex_scalar_views.specs.Compared
pub use Rattle.vortex_scalar_views.specs.Forms
pub use Rattle.vortex_scalar_views.specs.Numeric
pub use Rattle.vortex_scalar_views.specs.UnionViews
pub use Rattle.vortex_scalar_views.specs.Views as ScalarViewsViews
pub use Rattle.vortex_scalar_views.specs.declared.numeric_operator.NumericOperator
pub use Rattle.vortex_scalar_nested.specs.Entries as ScalarNestedEntries
pub use Rattle.vortex_scalar_nested.specs.Nested as ScalarNestedNested
pub use Rattle.vortex_scalar_nested.specs.Places as ScalarNestedPlaces
pub use Rattle.vortex_scalar_builders.specs.Laws as ScalarBuildersLaws
pub use Rattle.vortex_scalar_builders.specs.nested.Children
pub use Rattle.vortex_scalar_iter.specs.Choices as ScalarIterChoices
pub use Rattle.vortex_scalar_iter.specs.Entries as ScalarIterEntries
pub use Rattle.vortex_scalar_iter.specs.Iterators as ScalarIterIterators
pub use Rattle.vortex_scalar_iter.specs.Records as ScalarIterRecords
