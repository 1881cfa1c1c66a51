use Rattle.std.proofs.Common.{◌≡◌, ap, ◌∙◌, length, arith}
use Rattle.std.proofs.lemmas.List.{with_items_is}
use Rattle.vortex_table_schema.specs.Cut.{tree_of}
use Rattle.vortex_table_schema.specs.declared.projection.Projection as projection
use Rattle.vortex_table_select.specs.Lists.{cut_values, with_each, lists_of}
use Rattle.vortex_table_select.proofs.CutRows.{whole_grown}
use Rattle.vortex_table_select.proofs.rows.whole_lists.Goals as goal

pub loop-column-preserved : goal.loop-column-preserved
loop-column-preserved c =
    let columns = c.args.columns.now in let rows = c.args.rows.now in let column = c.column-item.result in
    let values = cut_values (tree_of projection.Whole) column rows in
    let made : lists_of c.push_column.new.lists ≡ with_each (lists_of c.loop-column.lists.items) values
    = c.in_ok-push_column.ensures ∙ ap (λ ls. with_each (lists_of ls) values) c.deref_mut.ensures.value in
    let now = c.loop-column.lists in let next = c.push_column.new.lists in
    let same = ap length c.deref_mut.ensures.value in
    let many : length next ≡ now.len = omega (arith, c.push_column.auto.lists, same, now.ok.0) in
    ap lists_of (with_items_is now next many) ∙ whole_grown columns c.loop-column.column-index column rows (lists_of c.loop-column.lists.items) (lists_of c.push_column.new.lists) c.loop-column-test.true c.column-item.is c.loop-column.invariant made
