use Rattle.std.proofs.Common.{◌≡◌, ap, ◌∙◌, length, arith, map}
use Rattle.vortex_scalar_value.specs.View.{raws_from}
use Rattle.std.proofs.lemmas.List.{with_items_is}
use Rattle.vortex_table_schema.specs.Cut.{part_of_field, cut_part}
use Rattle.vortex_table_select.specs.Lists.{fields_at, with_each, lists_of}
use Rattle.vortex_table_select.proofs.CutRows.{kept_grown}
use Rattle.vortex_table_select.proofs.rows.kept_lists.Goals as goal

pub loop-field-preserved : goal.loop-field-preserved
loop-field-preserved c =
    let columns = c.args.columns.now in let rows = c.args.rows.now in let field = c.field-item.result in
    let values = map (λ i. cut_part (raws_from (fields_at columns i)) (part_of_field field)) rows in
    let made : lists_of c.push_field.new.lists ≡ with_each (lists_of c.loop-field.lists.items) values
    = c.in_ok-push_field.ensures ∙ ap (λ ls. with_each (lists_of ls) values) c.deref_mut.ensures.value in
    let now = c.loop-field.lists in let next = c.push_field.new.lists in
    let same = ap length c.deref_mut.ensures.value in
    let many : length next ≡ now.len = omega (arith, c.push_field.auto.lists, same, now.ok.0) in
    ap lists_of (with_items_is now next many) ∙ kept_grown columns c.args.fields.now c.loop-field.field-index field rows (lists_of c.loop-field.lists.items) (lists_of c.push_field.new.lists) c.loop-field-test.true c.field-item.is c.loop-field.invariant made
