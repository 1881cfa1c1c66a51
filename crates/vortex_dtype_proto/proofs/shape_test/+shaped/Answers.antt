use Rattle.std.proofs.Common.{◌≡◌, ◌<◌, arith, refl, sym}
use Rattle.vortex_dtype_core.specs.View.{type_of, fields_of, variants_of}
use Rattle.vortex_dtype_core.proofs.Sizes.{type_size, fields_size, variants_size, field_smaller, choice_smaller}
use Rattle.vortex_dtype_proto.proofs.Shapings.{fails, goes_on, ends, one_field, all_fields, more_fields, one_variant, all_variants, more_variants}
use Rattle.vortex_dtype_proto.proofs.shape_test.+shaped.Goals as goal

pub are_fields_shaped-is_shaped-requires : goal.are_fields_shaped-is_shaped-requires
are_fields_shaped-is_shaped-requires t c =
    let e : type_size (type_of c.field-item.result.dtype) < fields_size (fields_of c.args.fields.now) = field_smaller c.args.fields.now c.loop-field.field-index c.field-item.result c.loop-field-test.true c.field-item.is in
    let d : fields_size (fields_of c.args.fields.now) ≡ t = c.decreases in
    (omega (arith, e, d), tt)

pub are_fields_shaped-returns-then-not-is_shaped : goal.are_fields_shaped-returns-then-not-is_shaped
are_fields_shaped-returns-then-not-is_shaped t c =
    fails one_field all_fields refl more_fields c.args.fields.now c.loop-field.field-index c.field-item.result c.loop-field-test.true c.field-item.is (sym c.if-not-is_shaped.ensures) c.loop-field.invariant

pub are_fields_shaped-loop-field-preserved : goal.are_fields_shaped-loop-field-preserved
are_fields_shaped-loop-field-preserved t c =
    goes_on one_field all_fields refl more_fields c.args.fields.now c.loop-field.field-index c.field-item.result c.loop-field-test.true c.field-item.is (sym c.if-not-is_shaped.ensures) c.loop-field.invariant

pub are_fields_shaped-returns : goal.are_fields_shaped-returns
are_fields_shaped-returns t c = ends one_field all_fields refl more_fields c.args.fields.now c.loop-field.field-index (omega arith) c.loop-field.invariant

pub are_variants_shaped-is_shaped-requires : goal.are_variants_shaped-is_shaped-requires
are_variants_shaped-is_shaped-requires t c =
    let e : type_size (type_of c.variant-item.result.dtype) < variants_size (variants_of c.args.variants.now) = choice_smaller c.args.variants.now c.loop-variant.variant-index c.variant-item.result c.loop-variant-test.true c.variant-item.is in
    let d : variants_size (variants_of c.args.variants.now) ≡ t = c.decreases in
    (omega (arith, e, d), tt)

pub are_variants_shaped-returns-then-not-is_shaped : goal.are_variants_shaped-returns-then-not-is_shaped
are_variants_shaped-returns-then-not-is_shaped t c =
    fails one_variant all_variants refl more_variants c.args.variants.now c.loop-variant.variant-index c.variant-item.result c.loop-variant-test.true c.variant-item.is (sym c.if-not-is_shaped.ensures) c.loop-variant.invariant

pub are_variants_shaped-loop-variant-preserved : goal.are_variants_shaped-loop-variant-preserved
are_variants_shaped-loop-variant-preserved t c =
    goes_on one_variant all_variants refl more_variants c.args.variants.now c.loop-variant.variant-index c.variant-item.result c.loop-variant-test.true c.variant-item.is (sym c.if-not-is_shaped.ensures) c.loop-variant.invariant

pub are_variants_shaped-returns : goal.are_variants_shaped-returns
are_variants_shaped-returns t c = ends one_variant all_variants refl more_variants c.args.variants.now c.loop-variant.variant-index (omega arith) c.loop-variant.invariant
