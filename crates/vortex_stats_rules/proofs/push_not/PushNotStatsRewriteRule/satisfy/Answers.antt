use Rattle.std.proofs.Common.{◌∙◌}
use Rattle.vortex_stats_rules.proofs.Said.{satisfier_said}
use Rattle.vortex_stats_rules.proofs.push_not.PushNotStatsRewriteRule.satisfy.Goals as goal

pub returns : goal.returns
returns c =
    λ k h.
    satisfier_said k c.args.expr.now c.deref.result.now c.in_ok-proofs.proofs.items c.in_ok-proof.proof c.out_of_box.result c.requires.handed
    (c.deref.ensures ∙ c.in_ok-pushed.ensures) h c.in_ok-proofs.ensures c.in_ok-proof.ensures c.out_of_box.ensures
