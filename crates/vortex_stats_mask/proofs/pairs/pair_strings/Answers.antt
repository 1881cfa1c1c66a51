use Rattle.std.proofs.Common.{sym, ◌∙◌}
use Rattle.std.proofs.lemmas.Result.{IfOk-weaker}
use Rattle.vortex_model.specs.Order.{bytes_cmp}
use Rattle.vortex_model_table.specs.Truth.{test_of}
use Rattle.vortex_arrays_view.specs.Views.{value_of}
use Rattle.vortex_stats_expr.specs.Tree.{comparison_of}
use Rattle.vortex_stats_match.specs.Buffers.{buffers_in}
use Rattle.vortex_stats_mask.proofs.SideBySide.{through_both}
use Rattle.vortex_stats_mask.proofs.pairs.pair_strings.Goals as goal

pub returns : goal.returns
returns c =
    let op = comparison_of c.args.comparison in
    let left = c.args.left.now in
    let right = c.args.right.now in
    IfOk-weaker c.pair_views.result _ _ (λ mask is. is
    ∙ sym (through_both (λ x y. test_of op (bytes_cmp x y)) (λ v. value_of v (buffers_in left.buffers)) (λ v. value_of v (buffers_in right.buffers)) left.views.now right.views.now)) c.pair_views.ensures
