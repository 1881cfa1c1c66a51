-- What is made of bound expressions is bound, or refused for its fault.
use Rattle.std.proofs.Common.{◌≡◌, Option, Some, None, Bool, true, false, ◌&&◌, refl, sym, ap, ◌∙◌, subst}
use Rattle.std.specs.Prelude.{option_and_then, is_some}
use Rattle.std.specs.Option.{unwrap_or}
use Rattle.vortex_model.specs.LogicalType.{LogicalType, boolean_type, utf8, null_only, equal_ignoring_nullability}
use Rattle.vortex_model_table.specs.Expression.{Expression, compare, both, either, negation, is_nan, between, like, statistic, Comparison, Aggregate}
use Rattle.vortex_model_table.specs.Command.{eq_optional_type, is_boolean, is_utf8_type}
use Rattle.vortex_model_table.specs.Typing.{expression_type, type_of_aggregate, is_of_floats as expression_is_of_floats}
use Rattle.vortex_model_rules.specs.Faults.{ProofFault, unequal_types, not_boolean, unsupported_aggregate, or_fault, unless, are_alike, is_truth, is_text, binding_fault}
use Rattle.vortex_dtype_core.specs.Parts.{is_boolean_type, is_utf8_type as is_text_type}
use Rattle.vortex_stats_bind.specs.Bound.{Bound, test, each, some, opposite, nan_test, range_test, match_test, placeholder, value_type, bound_of}
use Rattle.vortex_stats_bind.specs.Bindings.{IsBound}
use Rattle.vortex_stats_bind.specs.Truths.{is_of_floats}
use Rattle.vortex_stats_bind.proofs.Alike.{typed, floats_bound}

boolean_some : (l : LogicalType) → is_boolean (Some l) ≡ is_boolean_type l
boolean_some (boolean_type n) = refl
boolean_some l = refl

text_some : (l : LogicalType) → is_utf8_type (Some l) ≡ is_text_type l
text_some (utf8 n) = refl
text_some l = refl

pub truth_by : (k : LogicalType) (x : Expression) (a : Bound) → IsBound k x a → is_truth k x ≡ is_boolean_type (value_type a)
truth_by k x a h = ap is_boolean (typed k x a h) ∙ boolean_some (value_type a)

pub text_by : (k : LogicalType) (x : Expression) (a : Bound) → IsBound k x a → is_text k x ≡ is_text_type (value_type a)
text_by k x a h = ap is_utf8_type (typed k x a h) ∙ text_some (value_type a)

pub alike_by : (k : LogicalType) (x y : Expression) (a b : Bound) → IsBound k x a → IsBound k y b → are_alike k x y ≡ equal_ignoring_nullability (value_type a) (value_type b)
alike_by k x y a b h g = λ i. eq_optional_type (typed k x a h i) (typed k y b g i)

-- ---- after parts without a fault

after_one : (p s : Option ProofFault) → p ≡ None → or_fault p s ≡ s
after_one p s e = ap (λ o. or_fault o s) e

after_two : (p q s : Option ProofFault) → p ≡ None → q ≡ None → or_fault p (or_fault q s) ≡ s
after_two p q s e f = after_one p (or_fault q s) e ∙ after_one q s f

after_three : (p q s t : Option ProofFault) → p ≡ None → q ≡ None → s ≡ None → or_fault p (or_fault q (or_fault s t)) ≡ t
after_three p q s t e f g = after_one p (or_fault q (or_fault s t)) e ∙ after_two q s t f g

-- it is bound where the test passes, and else refused for the fault
pub record IsJudged (k : LogicalType) (e : Expression) (b : Bound) (t : Bool) (f : ProofFault) : Type 0 where
  pub passed : t ≡ true → IsBound k e b
  pub failed : t ≡ false → binding_fault k e ≡ Some f

judged : (k : LogicalType) (e : Expression) (b : Bound) (t : Bool) (f : ProofFault) → b ≡ bound_of k e → binding_fault k e ≡ unless t f → IsJudged k e b t f
judged k e b t f tree fault = record {
  passed = λ p. record { tree = tree; faultless = fault ∙ ap (λ s. unless s f) p };
  failed = λ p. fault ∙ ap (λ s. unless s f) p;
}

-- what was made is it
pub made : (k : LogicalType) (e : Expression) (r b : Bound) (t : Bool) (f : ProofFault) → r ≡ b → IsJudged k e b t f → t ≡ true → IsBound k e r
made k e r b t f is j p = subst (IsBound k e) (sym is) (j.passed p)

module _ (k : LogicalType) (x y : Expression) (a b : Bound) (h : IsBound k x a) (g : IsBound k y b) where
  pub compare_judged : (op : Comparison) → IsJudged k (compare op x y) (test op a b) (equal_ignoring_nullability (value_type a) (value_type b)) unequal_types
  compare_judged op =
      judged k (compare op x y) (test op a b) (equal_ignoring_nullability (value_type a) (value_type b)) unequal_types
      (λ i. test op (h.tree i) (g.tree i))
      (after_two (binding_fault k x) (binding_fault k y) (unless (are_alike k x y) unequal_types) h.faultless g.faultless
      ∙ ap (λ t. unless t unequal_types) (alike_by k x y a b h g))

  truths : or_fault (binding_fault k x) (or_fault (binding_fault k y) (unless (is_truth k x && is_truth k y) not_boolean))
      ≡ unless (is_boolean_type (value_type a) && is_boolean_type (value_type b)) not_boolean
  truths =
      after_two (binding_fault k x) (binding_fault k y) (unless (is_truth k x && is_truth k y) not_boolean) h.faultless g.faultless
      ∙ (λ i. unless (truth_by k x a h i && truth_by k y b g i) not_boolean)

  pub both_judged : IsJudged k (both x y) (each a b) (is_boolean_type (value_type a) && is_boolean_type (value_type b)) not_boolean
  both_judged = judged k (both x y) (each a b) (is_boolean_type (value_type a) && is_boolean_type (value_type b)) not_boolean (λ i. each (h.tree i) (g.tree i)) truths

  pub either_judged : IsJudged k (either x y) (some a b) (is_boolean_type (value_type a) && is_boolean_type (value_type b)) not_boolean
  either_judged = judged k (either x y) (some a b) (is_boolean_type (value_type a) && is_boolean_type (value_type b)) not_boolean (λ i. some (h.tree i) (g.tree i)) truths

  pub like_judged : (n c : Bool) → IsJudged k (like x y n c) (match_test a b n c) (is_text_type (value_type a) && is_text_type (value_type b)) unequal_types
  like_judged n c =
      judged k (like x y n c) (match_test a b n c) (is_text_type (value_type a) && is_text_type (value_type b)) unequal_types
      (λ i. match_test (h.tree i) (g.tree i) n c)
      (after_two (binding_fault k x) (binding_fault k y) (unless (is_text k x && is_text k y) unequal_types) h.faultless g.faultless
      ∙ (λ i. unless (text_by k x a h i && text_by k y b g i) unequal_types))

  pub between_judged : (z : Expression) (d : Bound) → IsBound k z d → (s t : Bool) →
      IsJudged k (between x y z s t) (range_test a b d s t)
      (equal_ignoring_nullability (value_type a) (value_type b) && equal_ignoring_nullability (value_type a) (value_type d)) unequal_types
  between_judged z d j s t =
      judged k (between x y z s t) (range_test a b d s t)
      (equal_ignoring_nullability (value_type a) (value_type b) && equal_ignoring_nullability (value_type a) (value_type d)) unequal_types
      (λ i. range_test (h.tree i) (g.tree i) (j.tree i) s t)
      (after_three (binding_fault k x) (binding_fault k y) (binding_fault k z) (unless (are_alike k x y && are_alike k x z) unequal_types) h.faultless g.faultless j.faultless
      ∙ (λ i. unless (alike_by k x y a b h g i && alike_by k x z a d h j i) unequal_types))

module _ (k : LogicalType) (x : Expression) (a : Bound) (h : IsBound k x a) where
  pub not_judged : IsJudged k (negation x) (opposite a) (is_boolean_type (value_type a)) not_boolean
  not_judged =
      judged k (negation x) (opposite a) (is_boolean_type (value_type a)) not_boolean (ap opposite h.tree)
      (after_one (binding_fault k x) (unless (is_truth k x) not_boolean) h.faultless ∙ ap (λ t. unless t not_boolean) (truth_by k x a h))

  pub nan_judged : IsJudged k (is_nan x) (nan_test a) (is_of_floats a) unequal_types
  nan_judged =
      judged k (is_nan x) (nan_test a) (is_of_floats a) unequal_types (ap nan_test h.tree)
      (after_one (binding_fault k x) (unless (expression_is_of_floats k x) unequal_types) h.faultless ∙ ap (λ t. unless t unequal_types) (floats_bound k x a h))

  stat_fault : (f : Aggregate) → binding_fault k (statistic x f) ≡ unless (is_some (type_of_aggregate f (value_type a))) unsupported_aggregate
  stat_fault f =
      after_one (binding_fault k x) (unless (is_some (option_and_then (type_of_aggregate f) (expression_type k x))) unsupported_aggregate) h.faultless
      ∙ ap (λ o. unless (is_some (option_and_then (type_of_aggregate f) o)) unsupported_aggregate) (typed k x a h)

  pub stat_bound : (f : Aggregate) (t : LogicalType) → type_of_aggregate f (value_type a) ≡ Some t → IsBound k (statistic x f) (placeholder a f t)
  stat_bound f t p = record {
    tree = (λ i. placeholder a f (unwrap_or (sym p i) null_only)) ∙ ap (λ b. placeholder b f (unwrap_or (type_of_aggregate f (value_type b)) null_only)) h.tree;
    faultless = stat_fault f ∙ ap (λ (o : Option LogicalType). unless (is_some o) unsupported_aggregate) p;
  }

  pub stat_refused : (f : Aggregate) → type_of_aggregate f (value_type a) ≡ None → binding_fault k (statistic x f) ≡ Some unsupported_aggregate
  stat_refused f p = stat_fault f ∙ ap (λ (o : Option LogicalType). unless (is_some o) unsupported_aggregate) p
