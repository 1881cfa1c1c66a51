use Rattle.std.proofs.Common.{◌∙◌, ap, sym, subst, option_map, IfSome}
use Rattle.std.specs.Prelude.{IfErr}
use Rattle.vortex_model_rules.specs.Rules.{answer_of, fals}
use Rattle.vortex_stats_bind.specs.Bound.{expression_of}
use Rattle.vortex_stats_bind.specs.Bindings.{IsBoundTo}
use Rattle.vortex_stats_rules.specs.Meanings.{rules_of}
use Rattle.vortex_stats_rules.specs.Refusals.{IsRefusal}
use Rattle.vortex_stats_rules.specs.Table.{unboxed}
use Rattle.vortex_stats_rules.proofs.Joining.{at_error}
use Rattle.vortex_stats_rules.proofs.Nodes.{is_predicate, no_predicate, refused, all_bound}
use Rattle.vortex_stats_rules.proofs.rewrite.falsify.Goals as goal

pub returns-then-not-is_boolean-clause-refused : goal.returns-then-not-is_boolean-clause-refused
returns-then-not-is_boolean-clause-refused g c = λ k h. no_predicate k c.args.e.now h (cc)

pub returns-in_err-proof-clause-refused : goal.returns-in_err-proof-clause-refused
returns-in_err-proof-clause-refused g c =
    λ k h.
    let rules = rules_of (λ b. (goal.StatsRewriteRule-dyn g (b.vtable, b.value)).meaning b.value) c.args.rules.now in
    let whole = fals k rules (expression_of c.args.e.now) in
    at_error c.from_residual.result c.in_err-proof.field-0.0 (λ r. IfErr r (IsRefusal k (expression_of c.args.e.now) whole)) c.from_residual.ensures.1
    (refused k c.args.e.now whole c.in_err-proof.field-0.0 h (cc) (c.in_err-proof.ensures.answer k h))

pub returns-clause-predicate : goal.returns-clause-predicate
returns-clause-predicate g c = λ k h. is_predicate k c.args.e.now h (cc)

pub returns-clause-answer : goal.returns-clause-answer
returns-clause-answer g c =
    λ k h.
    (c.in_ok-proof.ensures.answer k h).0 ∙ ap (λ o. answer_of (option_map expression_of o)) (sym c.out_of_box.ensures)

pub returns-clause-bound : goal.returns-clause-bound
returns-clause-bound g c =
    λ k h.
    subst (λ o. IfSome o (λ b. IsBoundTo k b)) (sym c.out_of_box.ensures) (all_bound k (unboxed c.in_ok-proof.proof) (c.in_ok-proof.ensures.answer k h).1)
