use Rattle.std.proofs.Common.{◌≡◌, ◌++◌, drop, map}
use Rattle.vortex_model.specs.LogicalType.{LogicalType}
use Rattle.vortex_model_rules.specs.Rules.{Answer, proof, joined_answers}
use Rattle.vortex_stats_bind.specs.Bound.{expression_of}
use Rattle.vortex_stats_bind.specs.Bindings.{IsBoundTo}
use Rattle.vortex_stats_rules.specs.Meanings.{rules_of, AreProofs, expressions_in, answers_to}
use Rattle.vortex_stats_rules.proofs.answers.push_answers.Given as goal

abbrev pub invariant-loop-rule : goal.invariant-loop-rule
invariant-loop-rule g l =
    (k : LogicalType) → IsBoundTo k l.e → AreProofs k l.fn.built_in.items →
    (joined_answers (map proof (expressions_in l.proofs.items)
    ++ answers_to l.claim k (expression_of l.e) (rules_of (λ b. (goal.StatsRewriteRule-dyn g (b.vtable, b.value)).meaning b.value) (drop l.rule-index l.rules)))
    ≡ joined_answers (map proof (expressions_in l.fn.built_in.items)
    ++ answers_to l.claim k (expression_of l.e) (rules_of (λ b. (goal.StatsRewriteRule-dyn g (b.vtable, b.value)).meaning b.value) l.rules)))
    × AreProofs k l.proofs.items
