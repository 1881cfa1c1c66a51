use Rattle.std.proofs.Common.{◌≡◌, map, take}
use Rattle.vortex_dtype_core.specs.View.{type_of, fields_of, variants_of}
use Rattle.vortex_dtype_proto.specs.View.{tree_of}
use Rattle.vortex_dtype_proto.proofs.Parts.{written_field, written_variant}
use Rattle.vortex_dtype_core.proofs.Sizes.{type_size, fields_size, variants_size}
use Rattle.vortex_dtype_proto.proofs.write.+write_message.Given as goal

abbrev pub decreases-write_message : goal.decreases-write_message
decreases-write_message l = type_size (type_of l.dtype.now)

abbrev pub decreases-write_fields : goal.decreases-write_fields
decreases-write_fields l = fields_size (fields_of l.fields.now)

abbrev pub decreases-write_variants : goal.decreases-write_variants
decreases-write_variants l = variants_size (variants_of l.variants.now)

abbrev pub invariant-write_fields-loop-field : goal.invariant-write_fields-loop-field
invariant-write_fields-loop-field l = map tree_of l.messages.items ≡ map written_field (take l.field-index l.fields)

abbrev pub invariant-write_variants-loop-variant : goal.invariant-write_variants-loop-variant
invariant-write_variants-loop-variant l = map tree_of l.messages.items ≡ map written_variant (take l.variant-index l.variants)
