use Rattle.std.proofs.Common.{◌∙◌, map}
use Rattle.std.proofs.lemmas.Result.{IfOk-weaker}
use Rattle.vortex_scalar_value.specs.View.{content_at}
use Rattle.vortex_stats_select.specs.Operands.{operand_rows}
use Rattle.vortex_stats_select.proofs.compare.compare_wanted_with.Goals as goal

pub returns : goal.returns
returns c =
    let rows = operand_rows c.args.operand.now c.args.len in
    IfOk-weaker c.compare_operand.result _ _ (λ mask is. is ∙ (λ i. map (λ e. c.wanted.ensures e (content_at c.args.literal) i) rows)) c.compare_operand.ensures
