use Rattle.std.proofs.Common.{sym, subst, arith}
use Rattle.vortex_table_columns.proofs.NestedLemmas.{ColumnsLeft, columns_none, column_built, columns_all}
use Rattle.vortex_table_columns.proofs.nested.NestedBuilder.+new.Goals as goal

pub of_fields-loop-field-init : goal.of_fields-loop-field-init
of_fields-loop-field-init t c = subst (ColumnsLeft c.args.fields.now 0) (sym c.in_ok-columns.ensures.items) (columns_none c.args.fields.now)

pub of_fields-loop-field-preserved : goal.of_fields-loop-field-preserved
of_fields-loop-field-preserved t c =
    let l = c.loop-field in
    column_built c.args.fields.now l.field-index _ l.columns.items _ _ (omega arith) c.field-item.is c.in_ok-push.ensures.items c.in_ok-column.ensures l.invariant

pub of_fields-returns : goal.of_fields-returns
of_fields-returns t c =
    let l = c.loop-field in
    columns_all c.args.fields.now l.field-index l.columns.items (omega arith) l.invariant
