use Rattle.std.proofs.Common.{◌≡◌, ◌∙◌, sym, subst, map, cond}
use Rattle.std.specs.Prelude.{IfSome}
use Rattle.vortex_model_table.specs.Truth.{compared}
use Rattle.vortex_scalar_value.specs.View.{content_at}
use Rattle.vortex_stats_expr.specs.Tree.{comparison_of}
use Rattle.vortex_stats_mask.specs.Wanted.{is_wanted}
use Rattle.vortex_stats_mask.proofs.Truths.{compared_swapped}
use Rattle.vortex_stats_bind.specs.Bound.{Provided}
use Rattle.vortex_stats_select.proofs.AskedLemmas.{joined_rows}
use Rattle.vortex_stats_select.specs.Wants.{value_at}
use Rattle.vortex_stats_select.proofs.narrow.narrow_comparison.Goals as goal

pub returns-in-Some : goal.returns-in-Some
returns-in-Some g c =
    let rows = g.S.Columns.rows c.args.columns.now in let op = comparison_of c.args.comparison in let want = c.args.want in
    let x = c.args.left.now in let y = c.args.right.now in let ms = c.args.mask.now.items in
    let said = subst (λ o. IfSome o (λ value. (row : Provided) → value_at y row ≡ content_at value)) c.in-Some.is c.literal_of.ensures in
    c.narrow_beside.ensures ∙ (λ i. cond c.narrow_beside.result (joined_rows c.args.at ms
    (map (λ row. is_wanted want (compared op (value_at x row) (sym (said row) i))) rows)) ms)

pub returns-in-Some-literal_of : goal.returns-in-Some-literal_of
returns-in-Some-literal_of g c =
    let rows = g.S.Columns.rows c.args.columns.now in let op = comparison_of c.args.comparison in let want = c.args.want in
    let x = c.args.left.now in let y = c.args.right.now in let d = content_at c.in-Some-literal_of.literal in let ms = c.args.mask.now.items in
    let said = subst (λ o. IfSome o (λ value. (row : Provided) → value_at x row ≡ content_at value)) c.in-Some-literal_of.is c.literal_of-2.ensures in
    c.narrow_beside-in-Some-literal_of.ensures ∙ (λ i. cond c.narrow_beside-in-Some-literal_of.result (joined_rows c.args.at ms
    (((λ i. map (λ row. is_wanted want (compared (c.swapped.ensures i) (value_at y row) d)) rows)
    ∙ (λ i. map (λ row. is_wanted want (sym (compared_swapped op d (value_at y row)) i)) rows)
    ∙ (λ i. map (λ row. is_wanted want (compared op (sym (said row) i) (value_at y row))) rows)) i)) ms)
