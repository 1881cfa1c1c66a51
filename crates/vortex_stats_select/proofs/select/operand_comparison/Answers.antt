use Rattle.std.proofs.Common.{◌≡◌, ◌∙◌, ap, subst, map, length}
use Rattle.std.specs.Prelude.{IfSome}
use Rattle.std.specs.List.{zip}
use Rattle.std.proofs.lemmas.Result.{IfOk-weaker}
use Rattle.vortex_stats_expr.specs.Tree.{comparison_of}
use Rattle.vortex_stats_mask.specs.Columns.{column_of}
use Rattle.vortex_stats_select.specs.Operands.{operand_rows}
use Rattle.vortex_stats_select.proofs.WantLemmas.{comparisons_wanted}
use Rattle.vortex_stats_select.specs.Wants.{value_at}
use Rattle.vortex_stats_select.proofs.select.operand_comparison.Goals as goal

pub returns-in-Some-Some : goal.returns-in-Some-Some
returns-in-Some-Some g c =
    let rows = g.S.Columns.rows c.args.columns.now in let x = c.args.left.now in let y = c.args.right.now in
    let cs = column_of c.in-Some-Some.x in let ds = column_of c.in-Some-Some.y in
    let l = subst (λ o. IfSome o (λ column. column_of column ≡ map (value_at x) rows)) c.in-Some-Some.is-0 c.lent_column.ensures in
    let r = subst (λ o. IfSome o (λ column. column_of column ≡ map (value_at y) rows)) c.in-Some-Some.is-1 c.lent_column-2.ensures in
    c.told.ensures _ (IfOk-weaker c.compare_columns.result _ _ (λ mask is. is ∙ (λ i. map (λ p. c.wanted.ensures p.0 p.1 i) (zip cs ds))
    ∙ comparisons_wanted c.args.want (comparison_of c.args.comparison) x y rows cs ds l r) c.compare_columns.ensures)

pub returns : goal.returns
returns g c =
    let rows = g.S.Columns.rows c.args.columns.now in let n = c.len.result in
    let left = c.in-Some.left in let right = c.in-Some-2.right in let x = c.args.left.now in let y = c.args.right.now in
    let l = subst (λ o. IfSome o (λ operand. operand_rows operand (length rows) ≡ map (value_at x) rows)) c.in-Some.is c.in_ok-left.ensures in
    let r = subst (λ o. IfSome o (λ operand. operand_rows operand (length rows) ≡ map (value_at y) rows)) c.in-Some-2.is c.in_ok-right.ensures in
    subst (λ ms. IfSome c.in_ok-found.found (λ mask. mask.items ≡ ms))
    (comparisons_wanted c.args.want (comparison_of c.args.comparison) x y rows (operand_rows left n) (operand_rows right n) (ap (operand_rows left) c.len.ensures ∙ l) (ap (operand_rows right) c.len.ensures ∙ r))
    c.in_ok-found.ensures
