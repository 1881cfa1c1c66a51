use Rattle.std.proofs.Common.{◌≡◌, ◌<◌, arith, ap, sym, ◌∙◌}
use Rattle.vortex_dtype_core.specs.View.{type_of, fields_of, variants_of}
use Rattle.vortex_dtype_proto.specs.View.{tree_of, trees_from}
use Rattle.vortex_dtype_proto.proofs.Parts.{one_more_seen, all_taken, written_field, written_variant, written_fields-fields_of, written_variants-variants_of}
use Rattle.vortex_dtype_core.proofs.Sizes.{type_size, fields_size, variants_size, field_smaller, choice_smaller}
use Rattle.vortex_dtype_proto.proofs.write.+write_message.Goals as goal

pub write_fields-write_message-requires : goal.write_fields-write_message-requires
write_fields-write_message-requires t c =
    let e : type_size (type_of c.field-item.result.dtype) < fields_size (fields_of c.args.fields.now) = field_smaller c.args.fields.now c.loop-field.field-index c.field-item.result (omega arith) c.field-item.is in
    let d : fields_size (fields_of c.args.fields.now) ≡ t = c.decreases in
    (omega (arith, e, d), tt)

pub write_variants-write_message-requires : goal.write_variants-write_message-requires
write_variants-write_message-requires t c =
    let e : type_size (type_of c.variant-item.result.dtype) < variants_size (variants_of c.args.variants.now) = choice_smaller c.args.variants.now c.loop-variant.variant-index c.variant-item.result (omega arith) c.variant-item.is in
    let d : variants_size (variants_of c.args.variants.now) ≡ t = c.decreases in
    (omega (arith, e, d), tt)

pub write_fields-loop-field-preserved : goal.write_fields-loop-field-preserved
write_fields-loop-field-preserved t c =
    one_more_seen tree_of written_field c.args.fields.now c.loop-field.field-index c.field-item.result c.loop-field.messages.items _ c.in_ok-message.message (omega arith) c.field-item.is c.in_ok-push.ensures.items c.in_ok-message.ensures c.loop-field.invariant

pub write_variants-loop-variant-preserved : goal.write_variants-loop-variant-preserved
write_variants-loop-variant-preserved t c =
    one_more_seen tree_of written_variant c.args.variants.now c.loop-variant.variant-index c.variant-item.result c.loop-variant.messages.items _ c.in_ok-message.message (omega arith) c.variant-item.is c.in_ok-push.ensures.items c.in_ok-message.ensures c.loop-variant.invariant

pub write_fields-returns : goal.write_fields-returns
write_fields-returns t c =
    ap trees_from (c.loop-field.invariant ∙ all_taken written_field c.args.fields.now c.loop-field.field-index (omega arith)) ∙ sym (written_fields-fields_of c.args.fields.now)

pub write_variants-returns : goal.write_variants-returns
write_variants-returns t c =
    ap trees_from (c.loop-variant.invariant ∙ all_taken written_variant c.args.variants.now c.loop-variant.variant-index (omega arith)) ∙ sym (written_variants-variants_of c.args.variants.now)
