use Rattle.std.proofs.Common.{◌≡◌, ◌<◌, ◌∙◌, ap, arith}
use Rattle.vortex_dtype_ptype.specs.Numbers.{type_of_numbers}
use Rattle.vortex_dtype_ptype.specs.View.{number_kind_of, nullability_of_flag}
use Rattle.vortex_model.specs.LogicalType.{fixed_list}
use Rattle.vortex_dtype_core.specs.View.{type_of, fields_of}
use Rattle.vortex_dtype_core.proofs.Views.{type_of-Primitive, type_of-FixedSizeList}
use Rattle.vortex_dtype_fields.proofs.Counted.{list_counted, field_uncounted, sum_uncounted, sum_next, still_countable, all_counted}
use Rattle.vortex_dtype_fields.proofs.Digits.{numbers_counted}
use Rattle.vortex_dtype_core.proofs.Sizes.{type_size, fields_size, field_smaller, levels}
use borrow.Author.Rules.{get_or_read}
use Rattle.vortex_dtype_fields.proofs.widths.+bytes.Goals as goal

pub counted_bytes-returns-in-Primitive : goal.counted_bytes-returns-in-Primitive
counted_bytes-returns-in-Primitive t c =
    let e : type_of c.args.dtype.now ≡ type_of_numbers (number_kind_of c.in-Primitive.ptype) (nullability_of_flag c.in-Primitive.field-1) = ap type_of c.in-Primitive.is ∙ type_of-Primitive _ _ in
    rw e (numbers_counted (number_kind_of c.in-Primitive.ptype) _ c.byte_width.result c.byte_width.ensures)

pub counted_bytes-returns-in_ok-bytes-in-FixedSizeList : goal.counted_bytes-returns-in_ok-bytes-in-FixedSizeList
counted_bytes-returns-in_ok-bytes-in-FixedSizeList t c =
    let size = c.in-FixedSizeList.size in
    let n = nullability_of_flag c.in-FixedSizeList.field-2 in
    let d : c.in-FixedSizeList.element.value ≡ c.deref.result.now = cc (c.deref.ensures) in
    let e : type_of c.args.dtype.now ≡ fixed_list (type_of c.deref.result.now) size n = ap type_of c.in-FixedSizeList.is ∙ type_of-FixedSizeList _ _ _ ∙ ap (λ x. fixed_list (type_of x) size n) d in
    let told = c.in_ok-bytes-in-FixedSizeList.ensures in
    rw e (list_counted (type_of c.deref.result.now) size n c.in_ok-bytes-in-FixedSizeList.bytes c.checked_mul.result told.0 told.1 c.checked_mul.ensures)

pub counted_bytes_of_fields-counted_bytes-requires : goal.counted_bytes_of_fields-counted_bytes-requires
counted_bytes_of_fields-counted_bytes-requires t c =
    let e : type_size (type_of c.field-item.result.dtype) < fields_size (fields_of c.args.fields.now) = field_smaller c.args.fields.now c.loop-field.field-index c.field-item.result c.loop-field-test.true c.field-item.is in
    let d : fields_size (fields_of c.args.fields.now) ≡ t = c.decreases in
    (omega (arith, e, d), tt)

pub counted_bytes_of_fields-returns-in_err-bytes : goal.counted_bytes_of_fields-returns-in_err-bytes
counted_bytes_of_fields-returns-in_err-bytes t c = rw c.from_residual.ensures (field_uncounted c.args.fields.now c.loop-field.field-index c.field-item.result c.loop-field-test.true c.field-item.is c.in_err-bytes.ensures c.loop-field.invariant.left)

pub counted_bytes_of_fields-returns-in_err-all : goal.counted_bytes_of_fields-returns-in_err-all
counted_bytes_of_fields-returns-in_err-all t c = rw c.from_residual-in_err-all.ensures (sum_uncounted c.args.fields.now c.loop-field.field-index c.field-item.result c.loop-field.all c.in_ok-bytes.bytes c.loop-field-test.true c.field-item.is c.in_ok-bytes.ensures.1 c.in_err-all.ensures c.loop-field.invariant.sum)

pub counted_bytes_of_fields-loop-field-preserved : goal.counted_bytes_of_fields-loop-field-preserved
counted_bytes_of_fields-loop-field-preserved t c = record {
  sum = sum_next c.args.fields.now c.loop-field.field-index c.field-item.result c.loop-field.all c.in_ok-bytes.bytes _ c.loop-field-test.true c.field-item.is c.in_ok-bytes.ensures.1 c.in_ok-all.ensures.1 c.loop-field.invariant.sum;
  small = let p = c.in_ok-all.ensures.0 in let q = c.in_ok-all.ensures.1 in omega arith;
  left = still_countable c.args.fields.now c.loop-field.field-index c.field-item.result c.loop-field-test.true c.field-item.is c.in_ok-bytes.ensures.0 c.loop-field.invariant.left;
}

pub counted_bytes_of_fields-returns : goal.counted_bytes_of_fields-returns
counted_bytes_of_fields-returns t c = all_counted c.args.fields.now c.loop-field.field-index c.loop-field.all c.loop-field-test.false c.loop-field.invariant.small c.loop-field.invariant.sum c.loop-field.invariant.left

pub counted_bytes-returns-in-Map : goal.counted_bytes-returns-in-Map
counted_bytes-returns-in-Map t c = grind (arith, levels)

pub counted_bytes-returns-in-Struct : goal.counted_bytes-returns-in-Struct
counted_bytes-returns-in-Struct t c = grind (arith, levels)

pub counted_bytes_of_fields-offset_bounds-fields-field-index : goal.counted_bytes_of_fields-offset_bounds-fields-field-index
counted_bytes_of_fields-offset_bounds-fields-field-index t c = grind (arith, levels)

pub counted_bytes-returns-in-Extension : goal.counted_bytes-returns-in-Extension
counted_bytes-returns-in-Extension t c = grind (arith, levels, get_or_read)

pub counted_bytes_of_fields-loop-field-init : goal.counted_bytes_of_fields-loop-field-init
counted_bytes_of_fields-loop-field-init t c = grind (arith, levels)

pub counted_bytes-returns-in_err-bytes-in-FixedSizeList : goal.counted_bytes-returns-in_err-bytes-in-FixedSizeList
counted_bytes-returns-in_err-bytes-in-FixedSizeList t c = grind (arith, levels, get_or_read)
