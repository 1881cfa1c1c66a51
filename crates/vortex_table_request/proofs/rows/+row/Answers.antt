use Rattle.std.below.core.proofs.iter.Serving.{as_err}
use Rattle.std.proofs.lemmas.Grind.{common_steps, elements}
use Rattle.std.proofs.Common.{Option, Some, map, sym, ap, ◌∙◌, arith, rules}
use Rattle.serde_json.specs.Events.{items_len}
use Rattle.serde_json.specs.View.{items_view}
use Rattle.vortex_model.specs.LogicalType.{LogicalType, Fields}
use Rattle.vortex_model.proofs.Lists.{none_left}
use Rattle.vortex_dtype_core.specs.View.{type_of}
use Rattle.vortex_scalar_value.specs.View.{raw_in}
use Rattle.vortex_scalar_value.proofs.Views.{raw_of-Tuple}
use Rattle.vortex_table_request.specs.Rows.{item_type}
use Rattle.vortex_table_request.proofs.AtKinds.{tuple_of, list_in, tuple_in, reading-array, reading-items}
use Rattle.vortex_table_request.proofs.RowLemmas.{too_few, rest_fits, one_read}
use Rattle.vortex_table_request.proofs.rows.+row.Goals as goal

pub take_fields-loop-item-preserved : goal.take_fields-loop-item-preserved
take_fields-loop-item-preserved t c = (
  rest_fits _ _ _ _ c.in-Some-split_first.ensures.cases.0 c.loop-item.invariant.0,
  one_read c.loop-item.values.items _ c.in_ok-take_value.field-0 c.loop-item.rest.now c.in-Some-split_first.after.now c.in-Some-split_first.field.now _ _ c.in-Some.item _ c.in_ok-push.ensures.items
      c.in-Some-split_first.ensures.cases.0 c.in-Some.ensures.steps.0 c.in_ok-take_value.ensures c.loop-item.invariant.1,
)

pub take_fields-returns-else-is_empty : goal.take_fields-returns-else-is_empty
take_fields-returns-else-is_empty t c =
    too_few (map raw_in c.loop-item.values.items) c.loop-item.rest.now _ _ _ (ap items_view (none_left _ (omega (arith, c.loop-item.item-iterator.rest.ok.0, c.in-None.ensures.steps.0)))) c.is_empty.ensures c.if-is_empty.false c.loop-item.invariant.1

pub take_array-returns-in-Some : goal.take_array-returns-in-Some
take_array-returns-in-Some t c =
    let ds = items_view c.args.items.items in
    let item = item_type (type_of c.args.dtype.now) (items_len ds) in
    reading-array (type_of c.args.dtype.now) ds
    ∙ ap (λ (o : Option Fields). tuple_in o item ds) (sym c.in-Some.ensures ∙ ap Some (sym c.as_slice.ensures.fields))
    ∙ ap tuple_of c.in_ok-values.ensures
    ∙ ap Some (sym (raw_of-Tuple c.in_ok-values.values))

pub take_array-returns-in_default-item_dtype : goal.take_array-returns-in_default-item_dtype
take_array-returns-in_default-item_dtype t c =
    let ds = items_view c.args.items.items in
    reading-items (type_of c.args.dtype.now) c.args.items.items c.len.result c.in_default.ensures (search rules)
    ∙ ap (λ (o : Option LogicalType). list_in o ds) (sym c.in_default-item_dtype.ensures)

pub take_array-returns : goal.take_array-returns
take_array-returns t c =
    let ds = items_view c.args.items.items in
    reading-items (type_of c.args.dtype.now) c.args.items.items c.len.result c.in_default.ensures (search rules)
    ∙ ap (λ (o : Option LogicalType). list_in o ds) (sym c.in-Some-item_dtype.ensures)
    ∙ ap tuple_of c.in_ok-values-2.ensures
    ∙ ap Some (sym (raw_of-Tuple c.in_ok-values-2.values))

pub take_fields-returns-in_err-values : goal.take_fields-returns-in_err-values
take_fields-returns-in_err-values t c = grind (arith, (as_err c.from_residual.ensures.0).1)

pub take_fields-loop-item-init-derived : goal.take_fields-loop-item-init-derived
take_fields-loop-item-init-derived t c = grind (arith, common_steps)

pub take_fields-loop-item-init : goal.take_fields-loop-item-init
take_fields-loop-item-init t c = grind (arith, elements)

pub take_fields-returns-in_default : goal.take_fields-returns-in_default
take_fields-returns-in_default t c = grind (arith, common_steps)

pub take_fields-returns-in_err-push : goal.take_fields-returns-in_err-push
take_fields-returns-in_err-push t c = grind (arith, (as_err c.from_residual-in_err-push.ensures.0).1)

pub take_fields-returns-then-is_empty : goal.take_fields-returns-then-is_empty
take_fields-returns-then-is_empty t c = grind (arith, common_steps)
