use Rattle.std.proofs.Common.{◌≡◌, ◌∙◌, ap, sym, subst, map}
use Rattle.std.specs.Prelude.{IfSome}
use Rattle.vortex_stats_bind.specs.BoundTree.{bound_tree}
use Rattle.vortex_stats_mask.specs.Columns.{column_of}
use Rattle.vortex_stats_select.specs.Wants.{value_at}
use Rattle.vortex_stats_select.proofs.operand.lent_column.Goals as goal

pub returns-in-Column : goal.returns-in-Column
returns-in-Column g c =
    let rows = g.S.Columns.rows c.args.columns.now in let same = sym c.e.view_is ∙ ap bound_tree c.in-Column.is in
    subst (λ cs. IfSome c.leaf.result (λ column. column_of column ≡ cs))
    ((λ i. map (λ row. row.columns (c.deref.ensures.value i)) rows) ∙ (λ i. map (value_at (sym same i)) rows)) c.leaf.ensures
