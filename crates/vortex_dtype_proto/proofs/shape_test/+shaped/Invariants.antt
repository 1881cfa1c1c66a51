use Rattle.std.proofs.Common.{◌≡◌, drop}
use Rattle.vortex_dtype_core.specs.View.{type_of, fields_of, variants_of}
use Rattle.vortex_dtype_core.proofs.Sizes.{type_size, fields_size, variants_size}
use Rattle.vortex_dtype_proto.specs.Shapes.{are_fields_shaped, are_variants_shaped}
use Rattle.vortex_dtype_proto.proofs.shape_test.+shaped.Given as goal

abbrev pub decreases-is_shaped : goal.decreases-is_shaped
decreases-is_shaped l = type_size (type_of l.dtype.now)

abbrev pub decreases-are_fields_shaped : goal.decreases-are_fields_shaped
decreases-are_fields_shaped l = fields_size (fields_of l.fields.now)

abbrev pub decreases-are_variants_shaped : goal.decreases-are_variants_shaped
decreases-are_variants_shaped l = variants_size (variants_of l.variants.now)

abbrev pub invariant-are_fields_shaped-loop-field : goal.invariant-are_fields_shaped-loop-field
invariant-are_fields_shaped-loop-field l = are_fields_shaped (fields_of (drop l.field-index l.fields)) ≡ are_fields_shaped (fields_of l.fields)

abbrev pub invariant-are_variants_shaped-loop-variant : goal.invariant-are_variants_shaped-loop-variant
invariant-are_variants_shaped-loop-variant l = are_variants_shaped (variants_of (drop l.variant-index l.variants)) ≡ are_variants_shaped (variants_of l.variants)
