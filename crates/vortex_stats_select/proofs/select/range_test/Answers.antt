use Rattle.std.proofs.Common.{◌≡◌, sym, subst, map}
use Rattle.std.specs.Prelude.{IfOk, IfSome}
use Rattle.vortex_model_table.specs.Truth.{compared, kleene_and, end_of}
use Rattle.vortex_scalar_value.specs.View.{content_at}
use Rattle.vortex_stats_expr.specs.Tree.{is_strict}
use Rattle.vortex_stats_mask.specs.Wanted.{is_wanted}
use Rattle.vortex_stats_bind.specs.Bound.{Provided}
use Rattle.vortex_stats_select.specs.Wants.{value_at}
use Rattle.vortex_stats_select.proofs.select.range_test.Goals as goal

pub returns-in-Some-Some : goal.returns-in-Some-Some
returns-in-Some-Some g c =
    let rows = g.S.Columns.rows c.args.columns.now in let want = c.args.want in
    let x = c.args.value.now in let lo = c.args.lower.now in let hi = c.args.upper.now in
    let ls = end_of (is_strict c.args.options.lower_strict) in let us = end_of (is_strict c.args.options.upper_strict) in
    let least = subst (λ o. IfSome o (λ value. (row : Provided) → value_at lo row ≡ content_at value)) c.in-Some-Some.is-0 c.literal_of.ensures in
    let greatest = subst (λ o. IfSome o (λ value. (row : Provided) → value_at hi row ≡ content_at value)) c.in-Some-Some.is-1 c.literal_of-2.ensures in
    subst (λ ms. IfOk c.literal_range.result (λ found. IfSome found (λ mask. mask.items ≡ ms)))
    (λ i. map (λ row. is_wanted want (kleene_and (compared ls (sym (least row) i) (value_at x row)) (compared us (value_at x row) (sym (greatest row) i)))) rows)
    c.literal_range.ensures
