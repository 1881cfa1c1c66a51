use Rattle.std.proofs.Common.{◌≡◌, ◌∙◌, ap, sym, subst, map, length}
use Rattle.std.specs.Prelude.{IfSome}
use Rattle.std.specs.List.{zip}
use Rattle.vortex_model.specs.Content.{Content}
use Rattle.vortex_model.proofs.Lists.{map_twice}
use Rattle.vortex_model_table.specs.Truth.{compared, end_of}
use Rattle.vortex_scalar_value.specs.View.{content_at}
use Rattle.vortex_stats_expr.specs.Tree.{comparison_of, is_strict}
use Rattle.vortex_stats_mask.specs.Wanted.{is_wanted, joined_by, swapped}
use Rattle.vortex_stats_mask.proofs.Truths.{compared_swapped, wanted_of_and}
use Rattle.vortex_stats_select.specs.Operands.{operand_rows}
use Rattle.vortex_stats_select.proofs.PairLemmas.{paired}
use Rattle.vortex_stats_select.specs.Wants.{value_at}
use Rattle.vortex_stats_select.proofs.select.literal_range.Goals as goal

pub returns : goal.returns
returns g c =
    let rows = g.S.Columns.rows c.args.columns.now in let want = c.args.want in let operand = c.in-Some.operand in
    let x = c.args.input.now in let lo = content_at c.args.lower in let hi = content_at c.args.upper in
    let ls = end_of (is_strict c.args.options.lower_strict) in let us = end_of (is_strict c.args.options.upper_strict) in
    let read = subst (λ o. IfSome o (λ operand. operand_rows operand (length rows) ≡ map (value_at x) rows)) c.in-Some.is c.in_ok-operand.ensures in
    let values = ap (operand_rows operand) c.len-len.ensures ∙ read in
    let above = λ (d : Content). is_wanted want (compared (comparison_of c.swapped-turned.result) d lo) in
    let below = λ (d : Content). is_wanted want (compared (comparison_of c.to_comparison-upper_end.result) d hi) in
    let l = c.in_ok-above.ensures ∙ ap (map above) values ∙ map_twice above (value_at x) rows
    ∙ (λ i. map (λ row. is_wanted want (compared ((c.swapped-turned.ensures ∙ ap swapped c.to_comparison-lower_end.ensures) i) (value_at x row) lo)) rows)
    ∙ (λ i. map (λ row. is_wanted want (sym (compared_swapped ls lo (value_at x row)) i)) rows) in
    let r = c.deref.ensures.value ∙ c.in_ok-below.ensures ∙ ap (map below) values ∙ map_twice below (value_at x) rows
    ∙ (λ i. map (λ row. is_wanted want (compared (c.to_comparison-upper_end.ensures i) (value_at x row) hi)) rows) in
    c.join.ensures ∙ (λ i. map (λ p. joined_by want p.0 p.1) (zip (l i) (r i)))
    ∙ paired (joined_by want) (λ row. is_wanted want (compared ls lo (value_at x row))) (λ row. is_wanted want (compared us (value_at x row) hi)) rows
    ∙ (λ i. map (λ row. sym (wanted_of_and want (compared ls lo (value_at x row)) (compared us (value_at x row) hi)) i) rows)
