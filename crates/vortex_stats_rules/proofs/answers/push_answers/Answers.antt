use Rattle.std.proofs.Common.{arith, map, ◌++◌}
use Rattle.std.specs.Prelude.{MatchResult}
use Rattle.vortex_model_rules.specs.Rules.{proof, joined_answers}
use Rattle.vortex_stats_bind.specs.Bound.{expression_of}
use Rattle.vortex_stats_rules.proofs.Joining.{at_error, passes, fails, ends}
use Rattle.vortex_stats_rules.specs.Meanings.{rules_of, expressions_in, IsFault, AreJoined, answers_to}
use Rattle.vortex_stats_rules.proofs.answers.push_answers.Goals as goal

pub loop-rule-preserved : goal.loop-rule-preserved
loop-rule-preserved g c =
    λ k h p.
    let i = c.loop-rule.invariant k h p in
    let u = c.in_ok-push_answer.ensures k h i.1 in (
      passes (λ b. (goal.StatsRewriteRule-dyn g (b.vtable, b.value)).meaning b.value) c.args.claim k (expression_of c.args.e.now)
          c.loop-rule.proofs.items c.push_answer.new.proofs.items c.args.rules.now c.loop-rule.rule-index c.rule-item.result _ (omega arith) c.rule-item.is u i.0,
      u.2,
    )

pub returns-in_err-push_answer : goal.returns-in_err-push_answer
returns-in_err-push_answer g c =
    λ k h p.
    let i = c.loop-rule.invariant k h p in
    let whole = joined_answers (map proof (expressions_in c.args.built_in.items)
    ++ answers_to c.args.claim k (expression_of c.args.e.now) (rules_of (λ b. (goal.StatsRewriteRule-dyn g (b.vtable, b.value)).meaning b.value) c.args.rules.now)) in
    at_error c.from_residual.result c.in_err-push_answer.field-0.0
    (λ r. MatchResult r (λ proofs. AreJoined k proofs.items whole) (λ error. IsFault error whole)) c.from_residual.ensures.1
    (fails (λ b. (goal.StatsRewriteRule-dyn g (b.vtable, b.value)).meaning b.value) c.args.claim k (expression_of c.args.e.now) _
    (expressions_in c.loop-rule.proofs.items) c.args.rules.now c.loop-rule.rule-index c.rule-item.result whole (omega arith) c.rule-item.is
    (c.in_err-push_answer.ensures k h i.1) i.0)

pub returns : goal.returns
returns g c =
    λ k h p.
    let i = c.loop-rule.invariant k h p in (
      ends (λ b. (goal.StatsRewriteRule-dyn g (b.vtable, b.value)).meaning b.value) c.args.claim k (expression_of c.args.e.now)
          (expressions_in c.loop-rule.proofs.items) c.args.rules.now c.loop-rule.rule-index _ (omega arith) i.0,
      i.1,
    )
