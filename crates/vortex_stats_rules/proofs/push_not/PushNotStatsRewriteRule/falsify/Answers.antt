use Rattle.std.proofs.Common.{◌∙◌}
use Rattle.vortex_model_table.specs.Rewrite.{falsifier}
use Rattle.vortex_model_rules.specs.PushNot.{pushed_in}
use Rattle.vortex_model_rules.specs.Rules.{answer_of}
use Rattle.vortex_stats_bind.specs.Bound.{expression_of}
use Rattle.vortex_stats_rules.specs.Meanings.{IsAnswer}
use Rattle.vortex_stats_rules.proofs.Joining.{at_error}
use Rattle.vortex_stats_rules.proofs.Said.{falsifier_said, falsifier_failed}
use Rattle.vortex_stats_rules.proofs.push_not.PushNotStatsRewriteRule.falsify.Goals as goal

pub returns-in_err-proof : goal.returns-in_err-proof
returns-in_err-proof c =
    λ k h.
    at_error c.from_residual-in_err-proof.result c.in_err-proof.field-0.0
    (λ r. IsAnswer k r (answer_of (falsifier k (pushed_in (expression_of c.args.expr.now))))) c.from_residual-in_err-proof.ensures.1
    (falsifier_failed k c.args.expr.now c.deref.result.now c.in_err-proof.field-0.0 c.no_rules_add_nothing.ensures c.requires.handed
    (c.deref.ensures ∙ c.in_ok-pushed.ensures) h (c.in_err-proof.ensures.answer k))

pub returns : goal.returns
returns c =
    λ k h.
    falsifier_said k c.args.expr.now c.deref.result.now c.in_ok-proof.proof c.out_of_box.result c.no_rules_add_nothing.ensures c.requires.handed
    (c.deref.ensures ∙ c.in_ok-pushed.ensures) h (c.in_ok-proof.ensures.answer k) c.out_of_box.ensures
