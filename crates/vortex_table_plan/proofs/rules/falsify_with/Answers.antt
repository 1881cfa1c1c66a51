use Rattle.vortex_model_rules.specs.Rules.{fals}
use Rattle.vortex_stats_rules.specs.Meanings.{rules_of}
use Rattle.vortex_table_plan.proofs.Refusals.{accepted_to, answered_so, fails_so, of_any, proof_bound}
use Rattle.vortex_table_plan.proofs.rules.falsify_with.Goals as goal

pub returns-in-Ok-clause-proof : goal.returns-in-Ok-clause-proof
returns-in-Ok-clause-proof g c =
    let meant = rules_of (λ b. (goal.StatsRewriteRule-dyn g (b.vtable, b.value)).meaning b.value) c.args.rules.now in
    λ k e is. answered_so k e c.args.predicate.now (fals k meant) _ is (c.in-Ok.ensures.answer k (accepted_to k e c.args.predicate.now is))

pub returns-in-Ok-clause-bound : goal.returns-in-Ok-clause-bound
returns-in-Ok-clause-bound g c = λ k e is. proof_bound k c.in-Ok.proof (c.in-Ok.ensures.bound k (accepted_to k e c.args.predicate.now is))

pub rule_error-requires : goal.rule_error-requires
rule_error-requires g c =
    let meant = rules_of (λ b. (goal.StatsRewriteRule-dyn g (b.vtable, b.value)).meaning b.value) c.args.rules.now in
    let k = c.requires.0 in let e = c.requires.1 in let is = c.requires.2 in let b = c.args.predicate.now in
    of_any _ c.in-Err.error (fails_so k e b (fals k meant) c.in-Err.error is (c.in-Err.ensures.refused k (accepted_to k e b is)))

pub returns-in-Err-clause-refused : goal.returns-in-Err-clause-refused
returns-in-Err-clause-refused g c =
    let meant = rules_of (λ b. (goal.StatsRewriteRule-dyn g (b.vtable, b.value)).meaning b.value) c.args.rules.now in
    λ k e is. c.rule_error.ensures _
    (fails_so k e c.args.predicate.now (fals k meant) c.in-Err.error is (c.in-Err.ensures.refused k (accepted_to k e c.args.predicate.now is)))
