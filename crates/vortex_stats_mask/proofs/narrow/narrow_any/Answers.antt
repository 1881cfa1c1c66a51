use Rattle.std.proofs.Common.{rules, ◌≡◌, ◌∙◌, map}
use Rattle.std.specs.Ordering.{int_cmp}
use Rattle.vortex_model_table.specs.Truth.{test_of}
use Rattle.vortex_scalar_value.specs.Numbers.{integer_of}
use Rattle.vortex_stats_expr.specs.Tree.{comparison_of}
use Rattle.vortex_stats_mask.specs.Columns.{both_rows}
use Rattle.vortex_stats_mask.proofs.Kept.{cut_both}
use Rattle.vortex_stats_mask.proofs.narrow.narrow_any.Goals as goal

pub returns-in-Some : goal.returns-in-Some
returns-in-Some g c =
    let n = g.T.Sealed.integer in let op = comparison_of c.args.comparison in let xs = c.args.xs.now in
    let f = λ (x : g.row.T.Denot). test_of op (int_cmp (n x) (integer_of c.args.number)) in
    let same : n c.in-Some.k ≡ integer_of c.args.number = search (rules, c.in-Some.ensures.number, c.get.ensures.number) in
    c.narrow_to.ensures ∙ (λ i. both_rows (c.truncate.ensures.items i) (map (λ x. test_of op (int_cmp (n x) (same i))) xs))
    ∙ cut_both f c.args.mask.now.items xs

pub returns-in-None : goal.returns-in-None
returns-in-None g c =
    let n = g.T.Sealed.integer in let op = comparison_of c.args.comparison in let xs = c.args.xs.now in
    let f = λ (x : g.row.T.Denot). test_of op (int_cmp (n x) (integer_of c.args.number)) in
    c.narrow_wide.ensures ∙ (λ i. both_rows (c.truncate.ensures.items i) (map f xs)) ∙ cut_both f c.args.mask.now.items xs
