use Rattle.std.proofs.Common.{◌≡◌, ◌<◌, ◌*◌, ◌∙◌, Some, None, option_map, ap, sym, arith, rules}
use Rattle.vortex_model.specs.Content.{raw_tuple}
use Rattle.vortex_dtype_core.specs.View.{type_of, fields_of}
use Rattle.vortex_dtype_core.proofs.Sizes.{type_size, fields_size, field_smaller}
use Rattle.vortex_scalar_value.proofs.Views.{raw_of-Tuple}
use Rattle.vortex_scalar_convert.specs.defaults.Zero.{zero_of}
use Rattle.vortex_scalar_convert.proofs.defaults.Made.{zeros_next, zeros_all, zeros_none}
use Rattle.vortex_scalar_convert.proofs.defaults.zero.+zero.Goals as goal

pub zero_record-zero_of-requires : goal.zero_record-zero_of-requires
zero_record-zero_of-requires t c =
    let e : type_size (type_of c.field-item.result.dtype) < fields_size (fields_of c.args.fields.now)
    = field_smaller c.args.fields.now c.loop-field.field-index c.field-item.result c.loop-field-test.true c.field-item.is in
    let d : 2 * fields_size (fields_of c.args.fields.now) ≡ t = c.decreases in
    (omega (arith, e, d), tt)

pub zero_record-returns-in_default : goal.zero_record-returns-in_default
zero_record-returns-in_default t c =
    let none : None ≡ zero_of (type_of c.field-item.result.dtype) = search rules in
    ap (option_map raw_tuple) (zeros_none c.args.fields.now c.loop-field.field-index c.field-item.result c.loop-field-test.true c.field-item.is none)

pub zero_record-loop-field-preserved : goal.zero_record-loop-field-preserved
zero_record-loop-field-preserved t c =
    let one = c.in_ok-zero.ensures in
    rw c.in_ok-push.ensures.items (zeros_next c.args.fields.now c.loop-field.zeros.items c.loop-field.field-index c.field-item.result c.in-Some.zero c.loop-field-test.true c.field-item.is c.loop-field.invariant (search rules))

pub zero_record-returns : goal.zero_record-returns
zero_record-returns t c =
    let all = zeros_all c.args.fields.now c.loop-field.zeros.items c.loop-field.field-index (omega arith) c.loop-field.invariant in
    sym (ap (option_map raw_tuple) all ∙ ap (λ r. Some r) (sym (raw_of-Tuple c.loop-field.zeros)))
