pub use Rattle.vortex_model.specs.Content
pub use Rattle.vortex_model.specs.Convert
pub use Rattle.vortex_model.specs.Kept as ModelKept
pub use Rattle.vortex_model.specs.LogicalType
pub use Rattle.vortex_model.specs.Valid as ModelValid
pub use Rattle.vortex_dtype_ptype.specs.Numbers as DtypePtypeNumbers
pub use Rattle.vortex_dtype_ptype.specs.View as DtypePtypeView
pub use Rattle.vortex_dtype_core.specs.View as DtypeCoreView
pub use Rattle.vortex_dtype_fields.specs.Records as DtypeFieldsRecords
pub use Rattle.vortex_scalar_value.specs.Numbers as ScalarValueNumbers
pub use Rattle.vortex_scalar_value.specs.View as ScalarValueView
pub use Rattle.vortex_scalar_core.specs.Scalar
pub use Rattle.vortex_arrays_buffer.specs.Bits
pub use Rattle.vortex_arrays_buffer.specs.Places as ArraysBufferPlaces
pub use Rattle.vortex_arrays_buffer.specs.PrimitiveBuffers
pub use Rattle.vortex_arrays_view.specs.Built
pub use Rattle.vortex_arrays_view.specs.Errors as ArraysViewErrors
pub use Rattle.vortex_arrays_view.specs.Laws as ArraysViewLaws
pub use Rattle.vortex_arrays_view.specs.Lengths as ArraysViewLengths
pub use Rattle.vortex_arrays_view.specs.Made
pub use Rattle.vortex_arrays_view.specs.Views as ArraysViewViews
pub use Rattle.vortex_arrays_view.specs.declared.error.ArrayError
pub use Rattle.vortex_arrays_model.specs.Column
pub use Rattle.vortex_arrays_model.specs.Laws as ArraysModelLaws
pub use Rattle.vortex_arrays_model.specs.Layout
pub use Rattle.vortex_arrays_model.specs.LayoutCode
pub use Rattle.vortex_arrays_model.specs.Parts as ArraysModelParts
pub use Rattle.vortex_arrays_model.specs.Picks
pub use Rattle.vortex_arrays_model.specs.Referenced
pub use Rattle.vortex_arrays_model.specs.Trimmed
pub use Rattle.vortex_arrays_core.specs.Faults as ArraysCoreFaults
pub use Rattle.vortex_arrays_core.specs.Filter
pub use Rattle.vortex_arrays_core.specs.Flags
pub use Rattle.vortex_arrays_core.specs.LayoutFalls
pub use Rattle.vortex_arrays_core.specs.LayoutOf
pub use Rattle.vortex_arrays_core.specs.Picking
pub use Rattle.vortex_arrays_core.specs.RawRows
pub use Rattle.vortex_arrays_validity.specs.Validities
pub use Rattle.vortex_arrays_leaf.specs.Faults as ArraysLeafFaults
pub use Rattle.vortex_arrays_leaf.specs.Options
pub use Rattle.vortex_arrays_leaf.specs.Shapes as ArraysLeafShapes
pub use Rattle.vortex_arrays_leaf.specs.Strings
pub use Rattle.vortex_arrays_leaf.specs.ViewFaults
pub use Rattle.vortex_arrays_nested.specs.Faults as ArraysNestedFaults
pub use Rattle.vortex_arrays_nested.specs.FixedLists
pub use Rattle.vortex_arrays_nested.specs.ListViews
pub use Rattle.vortex_arrays_nested.specs.Parts as ArraysNestedParts
pub use Rattle.vortex_arrays_nested.specs.Shapes as ArraysNestedShapes
pub use Rattle.vortex_arrays_struct.specs.ColumnFaults
pub use Rattle.vortex_arrays_struct.specs.Edited
pub use Rattle.vortex_arrays_struct.specs.Nested as ArraysStructNested
pub use Rattle.vortex_arrays_struct.specs.Pairs as ArraysStructPairs
pub use Rattle.vortex_arrays_struct.specs.RecordFaults
pub use Rattle.vortex_arrays_struct.specs.Records as ArraysStructRecords
pub use Rattle.vortex_arrays_rebuild.specs.Density
pub use Rattle.vortex_arrays_rebuild.specs.Rebuilds
pub use Rattle.vortex_arrays_rebuild.specs.Trims
pub use Rattle.vortex_arrays_rebuild.specs.declared.rebuild.ListViewRebuildMode
pub use Rattle.vortex_arrays_builder.specs.Fits
pub use Rattle.vortex_arrays_builder.specs.Integers as ArraysBuilderIntegers
pub use Rattle.vortex_arrays_builder.specs.Plain
pub use Rattle.vortex_arrays_builder.specs.TooLarge
pub use Rattle.vortex_arrays_builder.specs.Types as ArraysBuilderTypes
pub use Rattle.vortex_arrays_cast.specs.Ranges
pub use Rattle.vortex_arrays_concat.specs.EndToEnd
pub use Rattle.vortex_arrays_parts.specs.Faults as ArraysPartsFaults
pub use Rattle.vortex_arrays_parts.specs.Nulls
pub use Rattle.vortex_arrays_parts.specs.Typed as ArraysPartsTyped
pub use Rattle.vortex_arrays_parts.specs.Values as ArraysPartsValues
pub use Rattle.vortex_arrays_dictionary.specs.Columns as ArraysDictionaryColumns
pub use Rattle.vortex_arrays_dictionary.specs.Dictionary
pub use Rattle.vortex_arrays_dictionary.specs.Distinct
pub use Rattle.vortex_arrays_dictionary.specs.Narrowed
pub use Rattle.vortex_arrays_dictionary.specs.Reinterpreted as ArraysDictionaryReinterpreted
