use Rattle.std.proofs.Common.{◌≡◌, ◌∙◌, sym, subst, map}
use Rattle.std.specs.Prelude.{IfOk, IfSome}
use Rattle.vortex_model_table.specs.Truth.{compared}
use Rattle.vortex_scalar_value.specs.View.{content_at}
use Rattle.vortex_stats_expr.specs.Tree.{comparison_of}
use Rattle.vortex_stats_mask.specs.Wanted.{is_wanted}
use Rattle.vortex_stats_mask.proofs.Truths.{compared_swapped}
use Rattle.vortex_stats_bind.specs.Bound.{Provided}
use Rattle.vortex_stats_select.specs.Wants.{value_at}
use Rattle.vortex_stats_select.proofs.select.comparison.Goals as goal

pub returns-in-Some : goal.returns-in-Some
returns-in-Some g c =
    let rows = g.S.Columns.rows c.args.columns.now in let op = comparison_of c.args.comparison in let want = c.args.want in
    let x = c.args.left.now in let y = c.args.right.now in
    let said = subst (λ o. IfSome o (λ value. (row : Provided) → value_at y row ≡ content_at value)) c.in-Some.is c.literal_of.ensures in
    subst (λ ms. IfOk c.literal_comparison.result (λ found. IfSome found (λ mask. mask.items ≡ ms)))
    (λ i. map (λ row. is_wanted want (compared op (value_at x row) (sym (said row) i))) rows)
    c.literal_comparison.ensures

pub returns-in-Some-literal_of : goal.returns-in-Some-literal_of
returns-in-Some-literal_of g c =
    let rows = g.S.Columns.rows c.args.columns.now in let op = comparison_of c.args.comparison in let want = c.args.want in
    let x = c.args.left.now in let y = c.args.right.now in let d = content_at c.in-Some-literal_of.literal in
    let said = subst (λ o. IfSome o (λ value. (row : Provided) → value_at x row ≡ content_at value)) c.in-Some-literal_of.is c.literal_of-2.ensures in
    subst (λ ms. IfOk c.literal_comparison-in-Some-literal_of.result (λ found. IfSome found (λ mask. mask.items ≡ ms)))
    ((λ i. map (λ row. is_wanted want (compared (c.swapped.ensures i) (value_at y row) d)) rows)
    ∙ (λ i. map (λ row. is_wanted want (sym (compared_swapped op d (value_at y row)) i)) rows)
    ∙ (λ i. map (λ row. is_wanted want (compared op (sym (said row) i) (value_at y row))) rows))
    c.literal_comparison-in-Some-literal_of.ensures
