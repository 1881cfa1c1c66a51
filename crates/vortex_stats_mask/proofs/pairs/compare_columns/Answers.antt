use Rattle.std.proofs.Common.{sym, ap, ◌∙◌}
use Rattle.vortex_stats_expr.specs.Tree.{comparison_of}
use Rattle.vortex_stats_mask.specs.Columns.{contents_of, shown, kept}
use Rattle.vortex_stats_mask.specs.Valid.{valid_in}
use Rattle.vortex_stats_mask.proofs.SideBySide.{left_shown, right_shown}
use Rattle.vortex_stats_mask.proofs.pairs.compare_columns.Goals as goal

pub returns : goal.returns
returns c =
    let op = comparison_of c.args.comparison in
    let left = c.args.left.now in
    let right = c.args.right.now in
    c.keep_valid.ensures ∙ ap (kept (valid_in right.validity)) (c.keep_valid-mask.ensures ∙ ap (kept (valid_in left.validity)) c.in_ok-mask.ensures
    ∙ sym (left_shown op (valid_in left.validity) (contents_of left.items) (contents_of right.items)))
    ∙ sym (right_shown op (valid_in right.validity) (shown (valid_in left.validity) (contents_of left.items)) (contents_of right.items))
