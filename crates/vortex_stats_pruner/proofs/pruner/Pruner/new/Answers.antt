use Rattle.std.proofs.Common.{ap, ◌∙◌, inl, inr}
use Rattle.std.specs.Prelude.{IfErr}
use Rattle.vortex_dtype_core.specs.View.{type_of}
use Rattle.vortex_model_rules.specs.Rules.{fals, sat}
use Rattle.vortex_stats_bind.proofs.Alike.{expression_of_bound}
use Rattle.vortex_stats_rules.specs.Meanings.{rules_of}
use Rattle.vortex_stats_rules.specs.Visits.{visited}
use Rattle.vortex_stats_rules.proofs.Joining.{at_error}
use Rattle.vortex_stats_evaluate.proofs.ByCalls.{of_bound, its_predicate, its_visits, refused, unbound}
use Rattle.vortex_stats_pruner.specs.Pruning.{IsPrunerFault}
use Rattle.vortex_stats_pruner.proofs.PruningLemmas.{are_sound_by}
use Rattle.vortex_stats_pruner.proofs.pruner.Pruner.new.Goals as goal

pub returns-in_err-bound-clause-refused : goal.returns-in_err-bound-clause-refused
returns-in_err-bound-clause-refused g c =
    let rules = rules_of (λ b. (goal.StatsRewriteRule-dyn g (b.vtable, b.value)).meaning b.value) c.args.rules.now in
    let k = type_of c.args.dtype.now in let e = c.args.predicate.now in
    at_error c.from_residual.result c.in_err-bound.field-0.0
    (λ r. IfErr r (IsPrunerFault k rules e)) c.from_residual.ensures.1
    (inl (unbound k e (fals k rules e) c.in_err-bound.field-0.0 c.in_err-bound.ensures.refused))

pub returns-in_err-falsifier-clause-refused : goal.returns-in_err-falsifier-clause-refused
returns-in_err-falsifier-clause-refused g c =
    let rules = rules_of (λ b. (goal.StatsRewriteRule-dyn g (b.vtable, b.value)).meaning b.value) c.args.rules.now in
    let k = type_of c.args.dtype.now in let e = c.args.predicate.now in
    at_error c.from_residual-in_err-falsifier.result c.in_err-falsifier.field-0.0
    (λ r. IfErr r (IsPrunerFault k rules e)) c.from_residual-in_err-falsifier.ensures.1
    (inl (refused k e c.in_ok-bound.bound c.in_ok-bound.ensures.bound (λ x. fals k rules x)
    c.in_err-falsifier.field-0.0 c.in_ok-bound.ensures.truth (c.in_err-falsifier.ensures.refused k)))

pub returns-in_err-satisfier-clause-refused : goal.returns-in_err-satisfier-clause-refused
returns-in_err-satisfier-clause-refused g c =
    let rules = rules_of (λ b. (goal.StatsRewriteRule-dyn g (b.vtable, b.value)).meaning b.value) c.args.rules.now in
    let k = type_of c.args.dtype.now in let e = c.args.predicate.now in
    at_error c.from_residual-in_err-satisfier.result c.in_err-satisfier.field-0.0
    (λ r. IfErr r (IsPrunerFault k rules e)) c.from_residual-in_err-satisfier.ensures.1
    (inr (refused k e c.in_ok-bound.bound c.in_ok-bound.ensures.bound (λ x. sat k rules x)
    c.in_err-satisfier.field-0.0 c.in_ok-bound.ensures.truth (c.in_err-satisfier.ensures.refused k)))

pub invariant_of-result : goal.invariant_of-result
invariant_of-result g c =
    let k = type_of c.args.dtype.now in
    record {
      sound = are_sound_by k (type_of c.in_ok-copy.copy) c.args.predicate.now c.in_ok-bound.bound _
          c.in_ok-bound.ensures.bound c.in_ok-copy.ensures.cases c.in_ok-bound.ensures.truth
          c.in_ok-bound.ensures.formed c.falsified_zones_hold_none.ensures
          c.satisfied_zones_hold_all.ensures c.in_ok-falsifier.falsifier c.in_ok-satisfier.satisfier
          (c.in_ok-falsifier.ensures.answer k) (c.in_ok-falsifier.ensures.bound k)
          (c.in_ok-satisfier.ensures.answer k) (c.in_ok-satisfier.ensures.bound k);
    }

pub returns-clause-predicate : goal.returns-clause-predicate
returns-clause-predicate g c =
    expression_of_bound (type_of c.args.dtype.now) c.args.predicate.now c.in_ok-bound.bound
    c.in_ok-bound.ensures.bound

pub returns-clause-falsifier : goal.returns-clause-falsifier
returns-clause-falsifier g c =
    let rules = rules_of (λ b. (goal.StatsRewriteRule-dyn g (b.vtable, b.value)).meaning b.value) c.args.rules.now in
    let k = type_of c.args.dtype.now in
    of_bound k c.args.predicate.now c.in_ok-bound.bound c.in_ok-bound.ensures.bound
    (λ x. fals k rules x) c.in_ok-falsifier.falsifier (c.in_ok-falsifier.ensures.answer k)
    (c.in_ok-falsifier.ensures.bound k)

pub returns-clause-satisfier : goal.returns-clause-satisfier
returns-clause-satisfier g c =
    let rules = rules_of (λ b. (goal.StatsRewriteRule-dyn g (b.vtable, b.value)).meaning b.value) c.args.rules.now in
    let k = type_of c.args.dtype.now in
    of_bound k c.args.predicate.now c.in_ok-bound.bound c.in_ok-bound.ensures.bound
    (λ x. sat k rules x) c.in_ok-satisfier.satisfier (c.in_ok-satisfier.ensures.answer k)
    (c.in_ok-satisfier.ensures.bound k)

pub returns-clause-boolean : goal.returns-clause-boolean
returns-clause-boolean g c =
    let k = type_of c.args.dtype.now in
    its_predicate k c.args.predicate.now c.in_ok-bound.bound c.in_ok-bound.ensures.bound
    (c.in_ok-falsifier.ensures.predicate k)

pub returns-clause-visits : goal.returns-clause-visits
returns-clause-visits g c =
    c.in_ok-satisfier.ensures.visits ∙ ap (visited 1)
    (its_visits (type_of c.args.dtype.now) c.args.predicate.now c.in_ok-bound.bound
    c.in_ok-bound.ensures.bound _ _ c.in_ok-falsifier.ensures.visits)
