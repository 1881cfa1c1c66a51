use Rattle.std.proofs.Common.{◌∙◌}
use Rattle.vortex_stats_rules.proofs.Said.{null_side_said}
use Rattle.vortex_stats_rules.proofs.null_comparison.NullComparisonStatsRewriteRule.falsify.Goals as goal

pub returns : goal.returns
returns c = λ k h. null_side_said k c.args.expr.now c.out_of_box.result (c.out_of_box.ensures ∙ c.in_ok-proof.ensures) h
