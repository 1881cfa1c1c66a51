use Rattle.std.proofs.Common.{sym, ◌∙◌}
use Rattle.std.proofs.Math.Logic.{∥∥₁_elim}
use Rattle.std.specs.Coded.{Coded-set, coded_list, coded_bool}
use Rattle.vortex_scalar_value.specs.View.{content_at}
use Rattle.vortex_stats_expr.specs.Tree.{comparison_of}
use Rattle.vortex_stats_mask.specs.Columns.{contents_of}
use Rattle.vortex_stats_mask.specs.Valid.{valid_in}
use Rattle.vortex_stats_mask.proofs.Shown.{compared_where_valid}
use Rattle.vortex_stats_mask.proofs.compare.compare_literal.Goals as goal

pub returns : goal.returns
returns c =
    let col = c.args.column.now in
    ∥∥₁_elim col.headed (Coded-set (coded_list coded_bool) _ _) (λ headed.
    c.keep_valid.ensures ∙ c.in_ok-mask.ensures (valid_in col.validity) headed
    ∙ sym (compared_where_valid (comparison_of c.args.comparison) (content_at c.args.literal) (valid_in col.validity) (contents_of col.items)))
