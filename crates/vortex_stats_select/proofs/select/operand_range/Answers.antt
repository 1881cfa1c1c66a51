use Rattle.std.proofs.Common.{◌≡◌, ◌∙◌, sym, subst, map, cond}
use Rattle.std.specs.Prelude.{IfSome}
use Rattle.vortex_model_table.specs.Truth.{compared, end_of}
use Rattle.vortex_stats_expr.specs.Tree.{comparison_of, is_strict}
use Rattle.vortex_stats_mask.specs.Wanted.{is_wanted, joined_by}
use Rattle.vortex_stats_mask.proofs.Truths.{wanted_of_and}
use Rattle.vortex_stats_select.proofs.AskedLemmas.{joined_rows}
use Rattle.vortex_stats_select.proofs.PairLemmas.{paired}
use Rattle.vortex_stats_select.specs.Wants.{value_at}
use Rattle.vortex_stats_select.proofs.select.operand_range.Goals as goal

pub returns-then-narrow_comparison : goal.returns-then-narrow_comparison
returns-then-narrow_comparison g c =
    let rows = g.S.Columns.rows c.args.columns.now in let want = c.args.want in let ms = c.in-Some.above.items in
    let x = c.args.value.now in let lo = c.args.lower.now in let hi = c.args.upper.now in
    let above = subst (λ o. IfSome o (λ mask. mask.items ≡ map (λ row. is_wanted want (compared (comparison_of c.to_comparison-above.result) (value_at lo row) (value_at x row))) rows)) c.in-Some.is c.in_ok-above.ensures in
    let ls = end_of (is_strict c.args.options.lower_strict) in let us = end_of (is_strict c.args.options.upper_strict) in
    let l = above ∙ (λ i. map (λ row. is_wanted want (compared (c.to_comparison-above.ensures i) (value_at lo row) (value_at x row))) rows) in
    let below = map (λ row. is_wanted want (compared (comparison_of c.to_comparison-below.result) (value_at x row) (value_at hi row))) rows in
    c.narrow_comparison.ensures ∙ (λ i. cond (c.if-narrow_comparison.true i) (joined_rows want ms below) ms)
    ∙ (λ i. joined_rows want (l i) (map (λ row. is_wanted want (compared (c.to_comparison-below.ensures i) (value_at x row) (value_at hi row))) rows))
    ∙ paired (joined_by want) (λ row. is_wanted want (compared ls (value_at lo row) (value_at x row))) (λ row. is_wanted want (compared us (value_at x row) (value_at hi row))) rows
    ∙ (λ i. map (λ row. sym (wanted_of_and want (compared ls (value_at lo row) (value_at x row)) (compared us (value_at x row) (value_at hi row))) i) rows)

pub returns : goal.returns
returns g c =
    let rows = g.S.Columns.rows c.args.columns.now in let want = c.args.want in
    let x = c.args.value.now in let lo = c.args.lower.now in let hi = c.args.upper.now in
    let above = subst (λ o. IfSome o (λ mask. mask.items ≡ map (λ row. is_wanted want (compared (comparison_of c.to_comparison-above.result) (value_at lo row) (value_at x row))) rows)) c.in-Some.is c.in_ok-above.ensures in
    let below = subst (λ o. IfSome o (λ mask. mask.items ≡ map (λ row. is_wanted want (compared (comparison_of c.to_comparison-below.result) (value_at x row) (value_at hi row))) rows)) c.in-Some-2.is c.in_ok-below.ensures in
    let ls = end_of (is_strict c.args.options.lower_strict) in let us = end_of (is_strict c.args.options.upper_strict) in
    let l = above ∙ (λ i. map (λ row. is_wanted want (compared (c.to_comparison-above.ensures i) (value_at lo row) (value_at x row))) rows) in
    let r = c.deref.ensures.value ∙ below ∙ (λ i. map (λ row. is_wanted want (compared (c.to_comparison-below.ensures i) (value_at x row) (value_at hi row))) rows) in
    let ms = c.in-Some.above.items in
    let same = c.narrow_comparison.ensures ∙ (λ i. cond (c.if-narrow_comparison.false i) (joined_rows want ms
    (map (λ row. is_wanted want (compared (comparison_of c.to_comparison-below.result) (value_at x row) (value_at hi row))) rows)) ms) in
    c.join.ensures ∙ (λ i. joined_rows want ((same ∙ l) i) (r i))
    ∙ paired (joined_by want) (λ row. is_wanted want (compared ls (value_at lo row) (value_at x row))) (λ row. is_wanted want (compared us (value_at x row) (value_at hi row))) rows
    ∙ (λ i. map (λ row. sym (wanted_of_and want (compared ls (value_at lo row) (value_at x row)) (compared us (value_at x row) (value_at hi row))) i) rows)
