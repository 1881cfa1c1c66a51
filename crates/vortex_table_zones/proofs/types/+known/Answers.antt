use Rattle.std.proofs.Common.{◌≡◌, ◌<◌, ◌∙◌, ap, arith}
use Rattle.std.specs.Prelude.{Some}
use Rattle.vortex_dtype_core.specs.View.{type_of, fields_of}
use Rattle.vortex_dtype_core.proofs.Sizes.{type_size, fields_size, field_smaller}
use Rattle.vortex_table_zones.proofs.TypeLemmas.{below_record, one_more, no_more}
use Rattle.vortex_table_zones.proofs.types.+known.Goals as goal

pub known_fields-known_dtype-requires : goal.known_fields-known_dtype-requires
known_fields-known_dtype-requires t c =
    let e : type_size (type_of c.field-item.result.dtype) < fields_size (fields_of c.args.fields.now) = field_smaller c.args.fields.now c.loop-field.field-index c.field-item.result (omega arith) c.field-item.is in
    let d : fields_size (fields_of c.args.fields.now) ≡ t = c.decreases in
    (omega (arith, e, d), tt)

pub known_fields-loop-field-preserved : goal.known_fields-loop-field-preserved
known_fields-loop-field-preserved t c =
    one_more c.args.counts c.loop-field.known.items _ c.args.fields.now c.loop-field.field-index c.field-item.result _ (omega arith) c.field-item.is
    c.in_ok-name.ensures.cases c.in_ok-dtype.ensures c.in_ok-push.ensures.items c.loop-field.invariant

pub known_dtype-known_fields-requires : goal.known_dtype-known_fields-requires
known_dtype-known_fields-requires t c =
    let e : fields_size (fields_of c.as_slice.result.now) < type_size (type_of c.args.dtype.now) = below_record _ _ (ap Some c.as_slice.ensures.fields ∙ c.in-Some.ensures) in
    let d : type_size (type_of c.args.dtype.now) ≡ t = c.decreases in
    (omega (arith, e, d), tt)

pub known_fields-returns : goal.known_fields-returns
known_fields-returns t c =
    no_more c.args.counts c.loop-field.known.items c.args.fields.now c.loop-field.field-index c.loop-field-test.false c.loop-field.invariant
