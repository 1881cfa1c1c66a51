use Rattle.std.proofs.Common.{◌∙◌, map}
use Rattle.std.proofs.lemmas.Result.{IfOk-weaker}
use Rattle.vortex_scalar_value.specs.View.{content_at}
use Rattle.vortex_stats_mask.specs.Columns.{column_of}
use Rattle.vortex_stats_mask.proofs.compare.compare_wanted.Goals as goal

pub returns : goal.returns
returns c =
    IfOk-weaker c.compare_literal.result _ _ (λ mask is. is
    ∙ (λ i. map (λ e. c.wanted.ensures e (content_at c.args.literal) i) (column_of c.args.column.now))) c.compare_literal.ensures
