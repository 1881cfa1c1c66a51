use Rattle.std.proofs.Common.{◌≡◌, ◌<◌, arith, refl, sym}
use Rattle.vortex_dtype_core.specs.View.{type_of, fields_of}
use Rattle.vortex_dtype_core.proofs.Sizes.{type_size, fields_size, field_smaller}
use Rattle.vortex_dtype_proto.proofs.Shapings.{fails, goes_on, ends}
use Rattle.vortex_table_text.proofs.TypeParts.{one_field, all_fields, more_fields}
use Rattle.vortex_table_text.proofs.types.+text.Goals as goal

pub have_texts-has_text-requires : goal.have_texts-has_text-requires
have_texts-has_text-requires t c =
    let e : type_size (type_of c.field-item.result.dtype) < fields_size (fields_of c.args.fields.now) = field_smaller c.args.fields.now c.loop-field.field-index c.field-item.result c.loop-field-test.true c.field-item.is in
    let d : fields_size (fields_of c.args.fields.now) ≡ t = c.decreases in
    (omega (arith, e, d), tt)

pub have_texts-returns-then-not-has_text : goal.have_texts-returns-then-not-has_text
have_texts-returns-then-not-has_text t c =
    fails one_field all_fields refl more_fields c.args.fields.now c.loop-field.field-index c.field-item.result c.loop-field-test.true c.field-item.is (sym c.if-not-has_text.ensures) c.loop-field.invariant

pub have_texts-loop-field-preserved : goal.have_texts-loop-field-preserved
have_texts-loop-field-preserved t c =
    goes_on one_field all_fields refl more_fields c.args.fields.now c.loop-field.field-index c.field-item.result c.loop-field-test.true c.field-item.is (sym c.if-not-has_text.ensures) c.loop-field.invariant

pub have_texts-returns : goal.have_texts-returns
have_texts-returns t c = ends one_field all_fields refl more_fields c.args.fields.now c.loop-field.field-index (omega arith) c.loop-field.invariant
