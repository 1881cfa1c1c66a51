use Rattle.std.proofs.Common.{◌≡◌, ◌<◌, ◌+◌, ◌&&◌, ◌∙◌, drop, ap, sym, true, false, arith}
use Rattle.vortex_dtype_core.specs.View.{type_of, fields_of}
use Rattle.vortex_scalar_value.specs.View.{raw_at, raws_in}
use Rattle.vortex_scalar_value.proofs.Sizes.{raw_size, raws_size, item_smaller}
use Rattle.vortex_scalar_convert.specs.defaults.Zero.{is_zero_value, fields_are_zero}
use Rattle.vortex_scalar_convert.proofs.defaults.Tests.{field_next}
use Rattle.vortex_scalar_convert.proofs.defaults.is_zero.+zero.Goals as goal

pub are_zero-is_zero_value-requires : goal.are_zero-is_zero_value-requires
are_zero-is_zero_value-requires t c =
    let e : raw_size (raw_at c.as_ref.result) < raws_size (raws_in c.args.items.now)
    = item_smaller c.args.items.now c.loop-item.item-index c.item-item.result c.as_ref.result c.loop-item-test.true c.item-item.is c.as_ref.ensures.value in
    let d : raws_size (raws_in c.args.items.now) ≡ t = c.decreases in
    (omega (arith, e, d), tt)

pub fields_are_zero-is_zero_value-requires : goal.fields_are_zero-is_zero_value-requires
fields_are_zero-is_zero_value-requires t c =
    let e : raw_size (raw_at c.as_ref.result) < raws_size (raws_in c.args.items.now)
    = item_smaller c.args.items.now c.loop-i.i c.index-items-i.result c.as_ref.result c.loop-i-test.true c.index-items-i.is c.as_ref.ensures.value in
    let d : raws_size (raws_in c.args.items.now) ≡ t = c.decreases in
    (omega (arith, e, d), tt)

pub fields_are_zero-returns-then-not-is_zero_value :
    goal.fields_are_zero-returns-then-not-is_zero_value
fields_are_zero-returns-then-not-is_zero_value t c =
    let i = c.loop-i.i in
    let fields = c.args.fields.now in
    let items = c.args.items.now in
    let old = c.loop-i.invariant in
    let rest = fields_are_zero (fields_of (drop (i + 1) fields)) (raws_in (drop (i + 1) items)) in
    let here = field_next fields items i c.index-fields-i.result c.index-items-i.result c.as_ref.result (omega (arith, old.eq_length)) (omega arith) c.index-fields-i.is c.index-items-i.is c.as_ref.ensures.value in
    let not : is_zero_value (type_of c.index-fields-i.result.dtype) (raw_at c.as_ref.result) ≡ false
    = cc (c.if-not-is_zero_value.ensures, c.index-fields-i.is) in
    sym (sym old.left ∙ here ∙ ap (λ b. b && rest) not)

pub fields_are_zero-loop-i-preserved : goal.fields_are_zero-loop-i-preserved
fields_are_zero-loop-i-preserved t c =
    let i = c.loop-i.i in
    let fields = c.args.fields.now in
    let items = c.args.items.now in
    let old = c.loop-i.invariant in
    let rest = fields_are_zero (fields_of (drop (i + 1) fields)) (raws_in (drop (i + 1) items)) in
    let here = field_next fields items i c.index-fields-i.result c.index-items-i.result c.as_ref.result (omega (arith, old.eq_length)) (omega arith) c.index-fields-i.is c.index-items-i.is c.as_ref.ensures.value in
    let yes : is_zero_value (type_of c.index-fields-i.result.dtype) (raw_at c.as_ref.result) ≡ true
    = cc (c.if-not-is_zero_value.ensures, c.index-fields-i.is) in
    record {
      eq_length = old.eq_length;
      left = sym (here ∙ ap (λ b. b && rest) yes) ∙ old.left;
    }
