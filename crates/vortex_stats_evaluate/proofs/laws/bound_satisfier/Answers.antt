use Rattle.std.specs.Prelude.{IfErr}
use Rattle.vortex_dtype_core.specs.View.{type_of}
use Rattle.vortex_model_rules.specs.Rules.{sat}
use Rattle.vortex_stats_rules.specs.Meanings.{rules_of}
use Rattle.vortex_stats_rules.proofs.Joining.{at_error}
use Rattle.vortex_stats_evaluate.specs.Refusals.{IsRewriteFault}
use Rattle.vortex_stats_evaluate.proofs.ByCalls.{each_by_calls, of_bound, its_predicate, refused, unbound}
use Rattle.vortex_stats_evaluate.proofs.laws.bound_satisfier.Goals as goal

pub returns-in_err-predicate-clause-refused : goal.returns-in_err-predicate-clause-refused
returns-in_err-predicate-clause-refused g c =
    let rules = rules_of (λ b. (goal.StatsRewriteRule-dyn g (b.vtable, b.value)).meaning b.value) c.args.rules.now in
    let k = type_of c.args.dtype.now in let e = c.args.e.now in
    at_error c.from_residual.result c.in_err-predicate.field-0.0
    (λ r. IfErr r (IsRewriteFault k e (sat k rules e))) c.from_residual.ensures.1
    (unbound k e (sat k rules e) c.in_err-predicate.field-0.0 c.in_err-predicate.ensures.refused)

pub returns-in_err-proof-clause-refused : goal.returns-in_err-proof-clause-refused
returns-in_err-proof-clause-refused g c =
    let rules = rules_of (λ b. (goal.StatsRewriteRule-dyn g (b.vtable, b.value)).meaning b.value) c.args.rules.now in
    let k = type_of c.args.dtype.now in let e = c.args.e.now in
    at_error c.from_residual-in_err-proof.result c.in_err-proof.field-0.0
    (λ r. IfErr r (IsRewriteFault k e (sat k rules e))) c.from_residual-in_err-proof.ensures.1
    (refused k e c.in_ok-predicate.predicate c.in_ok-predicate.ensures.bound
    (λ x. sat k rules x) c.in_err-proof.field-0.0 c.in_ok-predicate.ensures.truth
    (c.in_err-proof.ensures.refused k))

pub returns-clause-sound : goal.returns-clause-sound
returns-clause-sound g c =
    let rules = rules_of (λ b. (goal.StatsRewriteRule-dyn g (b.vtable, b.value)).meaning b.value) c.args.rules.now in
    let k = type_of c.args.dtype.now in let e = c.args.e.now in
    each_by_calls k e rules c.in_ok-predicate.ensures.truth c.in_ok-predicate.ensures.formed _
    c.in_ok-proof.proof c.in_ok-bound.bound c.in_ok-bound.ensures c.satisfied_zones_hold_all.ensures
    (of_bound k e c.in_ok-predicate.predicate c.in_ok-predicate.ensures.bound
    (λ x. sat k rules x) c.in_ok-proof.proof (c.in_ok-proof.ensures.answer k)
    (c.in_ok-proof.ensures.bound k))

pub returns-clause-answer : goal.returns-clause-answer
returns-clause-answer g c =
    let rules = rules_of (λ b. (goal.StatsRewriteRule-dyn g (b.vtable, b.value)).meaning b.value) c.args.rules.now in
    let k = type_of c.args.dtype.now in let e = c.args.e.now in
    record {
      unbound = c.in_ok-proof.proof;
      made = of_bound k e c.in_ok-predicate.predicate c.in_ok-predicate.ensures.bound
          (λ x. sat k rules x) c.in_ok-proof.proof (c.in_ok-proof.ensures.answer k)
          (c.in_ok-proof.ensures.bound k);
      bound = c.in_ok-bound.ensures;
    }

pub returns-clause-boolean : goal.returns-clause-boolean
returns-clause-boolean g c =
    its_predicate (type_of c.args.dtype.now) c.args.e.now c.in_ok-predicate.predicate
    c.in_ok-predicate.ensures.bound (c.in_ok-proof.ensures.predicate (type_of c.args.dtype.now))
