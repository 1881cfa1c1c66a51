use Rattle.std.below.core.proofs.iter.Serving.{as_err}
use Rattle.std.proofs.lemmas.Grind.{common_steps}
use Rattle.std.proofs.Common.{rules, ◌≡◌, ◌≤◌, ◌+◌, ◌++◌, ◌∷◌, [], length, map, ap, sym, refl, ◌∙◌, arith}
use Rattle.std.proofs.lemmas.List.{take_all, map-append}
use Rattle.std.proofs.lemmas.List.FromFn.{map-range_with_len_more}
use Rattle.vortex_model.specs.Content.{raw_tuple}
use Rattle.vortex_scalar_value.specs.View.{raw_in, raw_of, raws_from}
use Rattle.vortex_scalar_value.specs.declared.scalar_value.ScalarValue.TheVariants.{Tuple}
use Rattle.vortex_scalar_value.proofs.Views.{raw_of-Tuple}
use Rattle.vortex_arrays_model.specs.Parts.{columns_of}
use Rattle.vortex_arrays_core.specs.RawRows.{raw_row, raw_fields}
use Rattle.vortex_arrays_core.proofs.RawRowsLemmas.{raws_from-fields, values}
use borrow.Author.Differences.{ints}
use borrow.Author.Rules.{get_or_read}
use Rattle.vortex_arrays_core.proofs.+value.Goals as goal

pub array::ArrayRef::value-returns-in_ok-items-in-Struct : goal.array::ArrayRef::value-returns-in_ok-items-in-Struct
array::ArrayRef::value-returns-in_ok-items-in-Struct t c =
    let parts = raw_fields (columns_of c.in-Struct.field-0.value c.in-Struct.fields.items) c.args.i in
    let made : raw_of (Tuple c.in_ok-items-in-Struct.items) ≡ raw_tuple parts =
    raw_of-Tuple c.in_ok-items-in-Struct.items
    ∙ ap raw_tuple (c.in_ok-items-in-Struct.ensures ∙ raws_from-fields c.in-Struct.field-0.value c.in-Struct.fields.items c.args.i) in
    let row : raw_tuple parts ≡ raw_row c.args.self.now c.args.i = search rules in
    made ∙ row

pub scalar::values_from-loop-k-preserved : goal.scalar::values_from-loop-k-preserved
scalar::values_from-loop-k-preserved t c =
    ap (map raw_in) c.in_ok-push.ensures.items
    ∙ map-append raw_in c.loop-k.items.items (c.in_ok-item.item ∷ [])
    ∙ (λ j. c.loop-k.invariant j ++ c.in_ok-item.ensures j ∷ [])
    ∙ sym (map-range_with_len_more (raw_row c.args.elements.now) c.args.start c.loop-k.k (c.args.start + c.loop-k.k) refl)

pub scalar::values_at-returns : goal.scalar::values_at-returns
scalar::values_at-returns t c =
    let e = c.deref-field-items.ensures.value in
    let all : length c.args.fields.now.items ≤ c.loop-field.field-index = rw (← e) (omega arith) in
    ap raws_from (c.loop-field.invariant ∙ ap (map (λ a. raw_row a c.args.i)) (take_all c.loop-field.field-index c.args.fields.now.items all))

pub array::ArrayRef::value-returns-in_err-value-in-VarBinView : goal.array::ArrayRef::value-returns-in_err-value-in-VarBinView
array::ArrayRef::value-returns-in_err-value-in-VarBinView t c = grind (arith, (as_err c.from_residual.ensures.0).1)

pub array::ArrayRef::value-returns-in_err-value-in-Constant : goal.array::ArrayRef::value-returns-in_err-value-in-Constant
array::ArrayRef::value-returns-in_err-value-in-Constant t c = grind (arith, (as_err c.from_residual-in_err-value-in-Constant.ensures.0).1)

pub array::ArrayRef::value-overflow_cast-code : goal.array::ArrayRef::value-overflow_cast-code
array::ArrayRef::value-overflow_cast-code t c = grind (ints, arith, common_steps)

pub array::ArrayRef::value-returns-in_err-value-in-Some : goal.array::ArrayRef::value-returns-in_err-value-in-Some
array::ArrayRef::value-returns-in_err-value-in-Some t c = grind (arith, (as_err c.from_residual-in_err-value-in-Some.ensures.0).1)

pub array::ArrayRef::value-returns-in_err-items-in-FixedSizeList : goal.array::ArrayRef::value-returns-in_err-items-in-FixedSizeList
array::ArrayRef::value-returns-in_err-items-in-FixedSizeList t c = grind (arith, (as_err c.from_residual-in_err-items-in-FixedSizeList.ensures.0).1)

pub array::ArrayRef::value-returns-in_err-items-in-ListView : goal.array::ArrayRef::value-returns-in_err-items-in-ListView
array::ArrayRef::value-returns-in_err-items-in-ListView t c = grind (arith, (as_err c.from_residual-in_err-items-in-ListView.ensures.0).1)

pub array::ArrayRef::value-returns-in_err-items-in-Struct : goal.array::ArrayRef::value-returns-in_err-items-in-Struct
array::ArrayRef::value-returns-in_err-items-in-Struct t c = grind (arith, (as_err c.from_residual-in_err-items-in-Struct.ensures.0).1)

pub array::ArrayRef::value-returns-in-Bool : goal.array::ArrayRef::value-returns-in-Bool
array::ArrayRef::value-returns-in-Bool t c = grind (ints, arith, values, get_or_read)

pub array::ArrayRef::value-returns-in-Primitive : goal.array::ArrayRef::value-returns-in-Primitive
array::ArrayRef::value-returns-in-Primitive t c = grind (ints, arith, values, get_or_read)

pub array::ArrayRef::value-returns-in_ok-value-in-VarBinView : goal.array::ArrayRef::value-returns-in_ok-value-in-VarBinView
array::ArrayRef::value-returns-in_ok-value-in-VarBinView t c = grind (ints, arith, values, get_or_read)

pub array::ArrayRef::value-returns-in_ok-value-in-Constant : goal.array::ArrayRef::value-returns-in_ok-value-in-Constant
array::ArrayRef::value-returns-in_ok-value-in-Constant t c = grind (ints, arith, values, get_or_read)

pub array::ArrayRef::value-returns-in_ok-value-in-Some : goal.array::ArrayRef::value-returns-in_ok-value-in-Some
array::ArrayRef::value-returns-in_ok-value-in-Some t c = grind (ints, arith, values, get_or_read)

pub array::ArrayRef::value-returns-in-None : goal.array::ArrayRef::value-returns-in-None
array::ArrayRef::value-returns-in-None t c = grind (ints, arith, values, get_or_read)

pub array::ArrayRef::value-returns-in_ok-items-in-FixedSizeList : goal.array::ArrayRef::value-returns-in_ok-items-in-FixedSizeList
array::ArrayRef::value-returns-in_ok-items-in-FixedSizeList t c = grind (ints, arith, values, get_or_read)

pub array::ArrayRef::value-returns-else-is_valid : goal.array::ArrayRef::value-returns-else-is_valid
array::ArrayRef::value-returns-else-is_valid t c = grind (ints, arith, values, get_or_read)

pub array::ArrayRef::value-returns-in_ok-items-in-ListView : goal.array::ArrayRef::value-returns-in_ok-items-in-ListView
array::ArrayRef::value-returns-in_ok-items-in-ListView t c = grind (ints, arith, values, get_or_read)

pub array::ArrayRef::value-returns-else-is_valid-2 : goal.array::ArrayRef::value-returns-else-is_valid-2
array::ArrayRef::value-returns-else-is_valid-2 t c = grind (ints, arith, values, get_or_read)

pub array::ArrayRef::value-returns-else-is_valid-3 : goal.array::ArrayRef::value-returns-else-is_valid-3
array::ArrayRef::value-returns-else-is_valid-3 t c = grind (ints, arith, values, get_or_read)

pub scalar::values_at-returns-in_err-items : goal.scalar::values_at-returns-in_err-items
scalar::values_at-returns-in_err-items t c = grind (arith, (as_err c.from_residual.ensures.0).1)

pub scalar::values_at-loop-field-init : goal.scalar::values_at-loop-field-init
scalar::values_at-loop-field-init t c = grind (arith, values)

pub scalar::values_at-offset_bounds-field-items-field-index : goal.scalar::values_at-offset_bounds-field-items-field-index
scalar::values_at-offset_bounds-field-items-field-index t c = grind (arith, values, c.well_formed, c.ranges)

pub scalar::values_at-returns-in_err-item : goal.scalar::values_at-returns-in_err-item
scalar::values_at-returns-in_err-item t c = grind (arith, (as_err c.from_residual-in_err-item.ensures.0).1)

pub scalar::values_at-returns-in_err-push : goal.scalar::values_at-returns-in_err-push
scalar::values_at-returns-in_err-push t c = grind (arith, (as_err c.from_residual-in_err-push.ensures.0).1)

pub scalar::values_at-loop-field-smaller : goal.scalar::values_at-loop-field-smaller
scalar::values_at-loop-field-smaller t c = grind (arith, values, get_or_read, c.well_formed, c.ranges, c.loop-field.invariant, c.loop-field.far-field-index, c.loop-field-test.true)

pub scalar::values_at-loop-field-preserved : goal.scalar::values_at-loop-field-preserved
scalar::values_at-loop-field-preserved t c = grind (arith, common_steps)

pub scalar::values_from-returns-in_err-items : goal.scalar::values_from-returns-in_err-items
scalar::values_from-returns-in_err-items t c = grind (arith, (as_err c.from_residual.ensures.0).1)

pub scalar::values_from-loop-k-init : goal.scalar::values_from-loop-k-init
scalar::values_from-loop-k-init t c = grind (arith, values)

pub scalar::values_from-overflow_add-start : goal.scalar::values_from-overflow_add-start
scalar::values_from-overflow_add-start t c = grind (arith, values, c.well_formed, c.ranges)

pub scalar::values_from-returns-in_err-item : goal.scalar::values_from-returns-in_err-item
scalar::values_from-returns-in_err-item t c = grind (arith, (as_err c.from_residual-in_err-item.ensures.0).1)

pub scalar::values_from-returns-in_err-push : goal.scalar::values_from-returns-in_err-push
scalar::values_from-returns-in_err-push t c = grind (arith, (as_err c.from_residual-in_err-push.ensures.0).1)

pub scalar::values_from-loop-k-smaller : goal.scalar::values_from-loop-k-smaller
scalar::values_from-loop-k-smaller t c = grind (arith, values, c.well_formed, c.ranges, c.loop-k.invariant, c.loop-k.far-k, c.loop-k-test.true)

pub scalar::values_from-returns : goal.scalar::values_from-returns
scalar::values_from-returns t c = grind (arith, values, c.well_formed, c.ranges)
