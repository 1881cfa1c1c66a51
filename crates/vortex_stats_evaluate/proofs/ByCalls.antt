-- What the calls that make proofs of a predicate give, by what they answer of the bound predicate.
use Rattle.std.proofs.Common.{◌≡◌, refl, sym, ap, ◌∙◌, subst, List, length, true, false, Option, Some, None, inl, inr}
use Rattle.std.specs.Prelude.{IfSome, option_map}
use Rattle.vortex_model.specs.LogicalType.{LogicalType}
use Rattle.vortex_model_table.specs.Expression.{Expression, HasFormedLiterals}
use Rattle.vortex_model_table.specs.Truth.{HasTruth}
use Rattle.vortex_model_rules.specs.Rules.{Rule, Answer, answer_of, fals, sat, handed_over}
use Rattle.vortex_stats_bind.specs.Bound.{Bound, expression_of}
use Rattle.vortex_stats_bind.specs.Bindings.{IsBound, IsBoundTo}
use Rattle.vortex_stats_bind.specs.Replaced.{Answers, replaced}
use Rattle.vortex_stats_bind.specs.Truths.{has_truth}
use Rattle.vortex_stats_bind.proofs.Alike.{truth_alike, expression_of_bound, bound_to}
use Rattle.vortex_stats_expr.specs.declared.error.StatsError.{StatsError}
use Rattle.vortex_stats_expr.specs.declared.error.StatsError.TheVariants as error
use Rattle.vortex_stats_rules.specs.Refusals.{IsPredicate, IsRefusal}
use Rattle.vortex_stats_rules.specs.Visits.{visited}
use Rattle.vortex_stats_rules.specs.declared.meter.Meter.{Meter}
use Rattle.vortex_stats_evaluate.specs.Readers.{IsProofOf, IsMade, SelectsNone, SelectsEach, FalsifiedZonesHoldNone, SatisfiedZonesHoldAll}
use Rattle.vortex_stats_evaluate.specs.Refusals.{IsPredicateFault, IsRewriteFault}

module _ (k : LogicalType) (e : Expression) (b : Bound) (h : IsBound k e b) where
  pub its_truth : has_truth b ≡ true → HasTruth k e
  its_truth t = truth_alike k e b h ∙ t

  pub without_truth : has_truth b ≡ false → IsPredicateFault k e error.NotEvaluable
  without_truth t = inr (h.faultless, refl, truth_alike k e b h ∙ t)

  -- of the expression that is bound, and so of the predicate
  pub its_predicate : (IsBoundTo k b → IsPredicate k (expression_of b)) → IsPredicate k e
  its_predicate f = subst (IsPredicate k) (expression_of_bound k e b h) (f (bound_to k e b h))

  pub of_bound : (make : Expression → Answer) (o : Option Bound) →
      (IsBoundTo k b → make (expression_of b) ≡ answer_of (option_map expression_of o)) →
      (IsBoundTo k b → IfSome o (IsBoundTo k)) → IsProofOf k (make e) o
  of_bound make o made bound = record {
    answer = ap make (sym (expression_of_bound k e b h)) ∙ made (bound_to k e b h);
    bound = bound (bound_to k e b h);
  }

  pub refused : (make : Expression → Answer) (r : StatsError) → HasTruth k e →
      (IsBoundTo k b → IsRefusal k (expression_of b) (make (expression_of b)) r) →
      IsRewriteFault k e (make e) r
  refused make r truth f = inr (
    h.faultless,
    truth,
    subst (λ x. IsRefusal k x (make x) r) (expression_of_bound k e b h)
        (f (bound_to k e b h)),
  )

  pub its_visits : (m new : Meter) → new ≡ visited (length (handed_over (expression_of b))) m →
      new ≡ visited (length (handed_over e)) m
  its_visits m new is =
      is ∙ ap (λ x. visited (length (handed_over x)) m) (expression_of_bound k e b h)

-- where a predicate isn't bound, or has no truth, there is no answer to it
pub unbound : (k : LogicalType) (e : Expression) (a : Answer) (r : StatsError) →
    IsPredicateFault k e r → IsRewriteFault k e a r
unbound k e a r h = inl h

made_of : (k : LogicalType) (a : Answer) (f : Bound) → IsProofOf k a (Some f) → IsMade k a f
made_of k a f p = record { bound = p.bound; made = p.answer }

-- what is proved of a proof is proved of what a binder makes of it
module _ (k : LogicalType) (e : Expression) (rules : List Rule) (truth : HasTruth k e) (formed : HasFormedLiterals e) where
  pub none_sound : FalsifiedZonesHoldNone rules → (o : Option Bound) → IsProofOf k (fals k rules e) o →
      IfSome o (λ f. (answers : Answers) → SelectsNone k answers e (replaced answers f))
  none_sound law None p = tt
  none_sound law (Some f) p = λ answers. law k e f answers truth formed (made_of k (fals k rules e) f p)

  pub each_sound : SatisfiedZonesHoldAll rules → (o : Option Bound) → IsProofOf k (sat k rules e) o →
      IfSome o (λ s. (answers : Answers) → SelectsEach k answers e (replaced answers s))
  each_sound law None p = tt
  each_sound law (Some s) p = λ answers. law k e s answers truth formed (made_of k (sat k rules e) s p)

pub of_bound_proof : (P : Bound → Type 0) (answers : Answers) (o found : Option Bound) →
    found ≡ option_map (replaced answers) o → IfSome o (λ f. P (replaced answers f)) → IfSome found P
of_bound_proof P answers None found is h = subst (λ x. IfSome x P) (sym is) tt
of_bound_proof P answers (Some f) found is h = subst (λ x. IfSome x P) (sym is) h

at_answers : (P : Answers → Bound → Type 0) (answers : Answers) (o : Option Bound) →
    IfSome o (λ f. (a : Answers) → P a (replaced a f)) → IfSome o (λ f. P answers (replaced answers f))
at_answers P answers None h = tt
at_answers P answers (Some f) h = h answers

module _ (k : LogicalType) (e : Expression) (rules : List Rule) (truth : HasTruth k e) (formed : HasFormedLiterals e) (answers : Answers) (o found : Option Bound)
    (is : found ≡ option_map (replaced answers) o) where
  pub none_by_calls : FalsifiedZonesHoldNone rules → IsProofOf k (fals k rules e) o → IfSome found (SelectsNone k answers e)
  none_by_calls law p = of_bound_proof (SelectsNone k answers e) answers o found is
      (at_answers (λ a. SelectsNone k a e) answers o (none_sound k e rules truth formed law o p))

  pub each_by_calls : SatisfiedZonesHoldAll rules → IsProofOf k (sat k rules e) o → IfSome found (SelectsEach k answers e)
  each_by_calls law p = of_bound_proof (SelectsEach k answers e) answers o found is
      (at_answers (λ a. SelectsEach k a e) answers o (each_sound k e rules truth formed law o p))

-- ---- by name, for the tactics

pub ruleset binding = (its_truth, without_truth)
