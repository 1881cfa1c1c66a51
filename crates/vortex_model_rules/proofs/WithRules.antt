-- With sound rules, falsifiers and satisfiers are sound.
use Rattle.std.proofs.Common.{◌≡◌, refl, List, [], ◌∷◌, Bool, true, false, not, ◌&&◌, ◌||◌, Some, inl, inr}
use Rattle.std.specs.List.{AllByRecursion}
use Rattle.std.specs.Cmp.{first_so, second_so}
use Rattle.vortex_model.specs.LogicalType.{LogicalType}
use Rattle.vortex_model.specs.Content.{Content}
use Rattle.vortex_model.proofs.Booleans.{or_false_left, or_false_right}
use Rattle.vortex_model_table.specs.Expression.{Expression, literal, column, compare, both, either, negation, is_null, is_not_null, is_nan, between, like, row_count, statistic, reads_columns, HasFormedLiterals}
use Rattle.vortex_model_table.specs.Truth.{evaluate, value_at, end_of, has_truth, HasTruth, Satisfies}
use Rattle.vortex_model_table.specs.Typing.{is_of_floats}
use Rattle.vortex_model_table.specs.Rewrite.{falsifiers, satisfiers, joined_proofs}
use Rattle.vortex_model_table.specs.Sound.{of_proof, IsSoundFalsifier, IsSoundSatisfier}
use Rattle.vortex_model_laws.proofs.Hopeless.{and_left, and_right, or_one}
use Rattle.vortex_model_laws.proofs.Honesty.{sound_falsifier, sound_satisfier}
use Rattle.vortex_model_rules.specs.Rules.{Answer, no_proof, proof, fault, Rule, asked, falsify_answers, satisfy_answers, either_answer, both_answers, falsifier_alone, falsifier_of_and, fals, sat}
use Rattle.vortex_model_rules.specs.Laws.{KeepsItsLaw}
use Rattle.vortex_model_rules.proofs.Believed.{IsBelieved, believed_so, so_believed, at_proofs, at_answer}

-- no row satisfies the predicate, or each does
abbrev pub NoneOf : LogicalType → Expression → List Content → Type 0
NoneOf k e rows = AllByRecursion (λ row. ¬ (Satisfies k e row)) rows

abbrev pub EachOf : LogicalType → Expression → List Content → Type 0
EachOf k e rows = AllByRecursion (λ row. Satisfies k e row) rows

each_so : {X : Type 0} (P Q : X → Type 0) (xs : List X) → ((x : X) → P x → Q x) → AllByRecursion P xs → AllByRecursion Q xs
each_so P Q [] f h = tt
each_so P Q (x ∷ xs) f h = (f x h.0, each_so P Q xs f h.1)

each_of_two : {X : Type 0} (P Q R : X → Type 0) (xs : List X) → ((x : X) → P x → Q x → R x) → AllByRecursion P xs → AllByRecursion Q xs → AllByRecursion R xs
each_of_two P Q R [] f h g = tt
each_of_two P Q R (x ∷ xs) f h g = (f x h.0 g.0, each_of_two P Q R xs f h.1 g.1)

-- where a BETWEEN has a truth, so have its two comparisons
ends_truth : (f g h t u v : Bool) → not (f || g || h) && (t && (u && v)) ≡ true → (not (g || f) && (u && t) ≡ true) × (not (f || h) && (t && v) ≡ true)
ends_truth false false false true true true e = (refl, refl)
ends_truth f g h t u v e = absurd (cc (e))

module _ (k : LogicalType) where
  none_left : (x y : Expression) (rows : List Content) → NoneOf k x rows → NoneOf k (both x y) rows
  none_left x y rows h = each_so (λ row. ¬ (Satisfies k x row)) (λ row. ¬ (Satisfies k (both x y) row)) rows (λ row n s. n (and_left (value_at k x row) (value_at k y row) s)) h

  none_right : (x y : Expression) (rows : List Content) → NoneOf k y rows → NoneOf k (both x y) rows
  none_right x y rows h = each_so (λ row. ¬ (Satisfies k y row)) (λ row. ¬ (Satisfies k (both x y) row)) rows (λ row n s. n (and_right (value_at k x row) (value_at k y row) s)) h

  none_either : (x y : Expression) (rows : List Content) → NoneOf k x rows → NoneOf k y rows → NoneOf k (either x y) rows
  none_either x y rows h g = each_of_two (λ row. ¬ (Satisfies k x row)) (λ row. ¬ (Satisfies k y row)) (λ row. ¬ (Satisfies k (either x y) row)) rows
      (λ row m n s. elim (or_one (value_at k x row) (value_at k y row) s) [ inl u ↦ m u | inr v ↦ n v ]) h g

  of_and : (x y : Expression) (a b : Answer) → IsBelieved k (NoneOf k x) a → IsBelieved k (NoneOf k y) b → IsBelieved k (NoneOf k (both x y)) (either_answer a b)
  of_and x y fault b f g = tt
  of_and x y no_proof fault f g = tt
  of_and x y no_proof no_proof f g = tt
  of_and x y no_proof (proof q) f g = λ rows given typed honest t. none_right x y rows (g rows given typed honest t)
  of_and x y (proof p) fault f g = tt
  of_and x y (proof p) no_proof f g = λ rows given typed honest t. none_left x y rows (f rows given typed honest t)
  of_and x y (proof p) (proof q) f g = λ rows given typed honest t. elim (or_one (evaluate (of_proof given rows) p) (evaluate (of_proof given rows) q) t.1) [
    | inl s ↦ none_left x y rows (f rows given typed honest (or_false_left (reads_columns p) (reads_columns q) t.0, s))
    | inr s ↦ none_right x y rows (g rows given typed honest (or_false_right (reads_columns p) (reads_columns q) t.0, s))
  ]

  of_or : (x y : Expression) (a b : Answer) → IsBelieved k (NoneOf k x) a → IsBelieved k (NoneOf k y) b → IsBelieved k (NoneOf k (either x y)) (both_answers a b)
  of_or x y fault b f g = tt
  of_or x y no_proof fault f g = tt
  of_or x y no_proof no_proof f g = tt
  of_or x y no_proof (proof q) f g = tt
  of_or x y (proof p) fault f g = tt
  of_or x y (proof p) no_proof f g = tt
  of_or x y (proof p) (proof q) f g = λ rows given typed honest t. none_either x y rows
      (f rows given typed honest (or_false_left (reads_columns p) (reads_columns q) t.0, and_left (evaluate (of_proof given rows) p) (evaluate (of_proof given rows) q) t.1))
      (g rows given typed honest (or_false_right (reads_columns p) (reads_columns q) t.0, and_right (evaluate (of_proof given rows) p) (evaluate (of_proof given rows) q) t.1))

  -- ---- callers' answers

  falsify_believed : (rules : List Rule) (e : Expression) → AllByRecursion (KeepsItsLaw k) rules → HasTruth k e → HasFormedLiterals e →
      AllByRecursion (IsBelieved k (NoneOf k e)) (falsify_answers k rules e)
  falsify_believed [] e laws has formed = tt
  falsify_believed (rule ∷ rules) e laws has formed =
      (believed_so k (NoneOf k e) (asked rule.root rule.falsify k e) (λ p is. laws.0.falsifies e p has formed is), falsify_believed rules e laws.1 has formed)

  satisfy_believed : (rules : List Rule) (e : Expression) → AllByRecursion (KeepsItsLaw k) rules → HasTruth k e → HasFormedLiterals e →
      AllByRecursion (IsBelieved k (EachOf k e)) (satisfy_answers k rules e)
  satisfy_believed [] e laws has formed = tt
  satisfy_believed (rule ∷ rules) e laws has formed =
      (believed_so k (EachOf k e) (asked rule.root rule.satisfy k e) (λ p is. laws.0.satisfies e p has formed is), satisfy_believed rules e laws.1 has formed)

  -- ---- falsifier and satisfier

  module _ (rules : List Rule) (laws : AllByRecursion (KeepsItsLaw k) rules) where
    alone : (e : Expression) → HasTruth k e → HasFormedLiterals e → ((p : Expression) → joined_proofs (falsifiers k e) ≡ Some p → IsSoundFalsifier k e p) →
        IsBelieved k (NoneOf k e) (falsifier_alone k rules e)
    alone e has formed sound = at_proofs k (NoneOf k e) (falsifiers k e) (falsify_answers k rules e) sound (falsify_believed rules e laws has formed)

    compared : (op : _) (x y : Expression) → HasTruth k (compare op x y) → HasFormedLiterals (compare op x y) → IsBelieved k (NoneOf k (compare op x y)) (falsifier_alone k rules (compare op x y))
    compared op x y has formed = alone (compare op x y) has formed (λ p is. sound_falsifier k (compare op x y) p has formed is)

    at_and : (x y : Expression) (a b : Answer) → HasTruth k (both x y) → HasFormedLiterals (both x y) → IsBelieved k (NoneOf k x) a → IsBelieved k (NoneOf k y) b →
        IsBelieved k (NoneOf k (both x y)) (falsifier_of_and k rules x y a b)
    at_and x y a b has formed f g =
        at_answer k (NoneOf k (both x y)) (either_answer a b) (falsify_answers k rules (both x y)) (of_and x y a b f g) (falsify_believed rules (both x y) laws has formed)

    both_truth : (b c : Bool) → b ≡ true → c ≡ true → b && c ≡ true
    both_truth true c e f = f
    both_truth false c e f = e

    believed : (e : Expression) → HasTruth k e → HasFormedLiterals e → IsBelieved k (NoneOf k e) (fals k rules e)
    believed (both x y) has formed = at_and x y (fals k rules x) (fals k rules y) has formed
        (believed x (first_so (has_truth k x) (has_truth k y) has) formed.0) (believed y (second_so (has_truth k x) (has_truth k y) has) formed.1)
    believed (either x y) has formed =
        at_answer k (NoneOf k (either x y)) (both_answers (fals k rules x) (fals k rules y)) (falsify_answers k rules (either x y))
        (of_or x y (fals k rules x) (fals k rules y) (believed x (first_so (has_truth k x) (has_truth k y) has) formed.0) (believed y (second_so (has_truth k x) (has_truth k y) has) formed.1))
        (falsify_believed rules (either x y) laws has formed)
    believed (between x lo hi s t) has formed =
        let low : Expression = compare (end_of s) lo x in let high : Expression = compare (end_of t) x hi in
        let ends : HasTruth k low × HasTruth k high = ends_truth (is_of_floats k x) (is_of_floats k lo) (is_of_floats k hi) (has_truth k x) (has_truth k lo) (has_truth k hi) has in
        at_answer k (NoneOf k (between x lo hi s t)) (falsifier_of_and k rules low high (falsifier_alone k rules low) (falsifier_alone k rules high)) (falsify_answers k rules (between x lo hi s t))
        (at_and low high (falsifier_alone k rules low) (falsifier_alone k rules high) (both_truth (has_truth k low) (has_truth k high) ends.0 ends.1) ((formed.1, formed.0), (formed.0, formed.2))
        (compared (end_of s) lo x ends.0 (formed.1, formed.0)) (compared (end_of t) x hi ends.1 (formed.0, formed.2)))
        (falsify_believed rules (between x lo hi s t) laws has formed)
    believed (literal l c) has formed = alone (literal l c) has formed (λ p is. sound_falsifier k (literal l c) p has formed is)
    believed (column xs) has formed = alone (column xs) has formed (λ p is. sound_falsifier k (column xs) p has formed is)
    believed (compare op x y) has formed = compared op x y has formed
    believed (negation x) has formed = alone (negation x) has formed (λ p is. sound_falsifier k (negation x) p has formed is)
    believed (is_null x) has formed = alone (is_null x) has formed (λ p is. sound_falsifier k (is_null x) p has formed is)
    believed (is_not_null x) has formed = alone (is_not_null x) has formed (λ p is. sound_falsifier k (is_not_null x) p has formed is)
    believed (is_nan x) has formed = alone (is_nan x) has formed (λ p is. sound_falsifier k (is_nan x) p has formed is)
    believed (like x form n i) has formed = alone (like x form n i) has formed (λ p is. sound_falsifier k (like x form n i) p has formed is)
    believed row_count has formed = alone row_count has formed (λ p is. sound_falsifier k row_count p has formed is)
    believed (statistic x a) has formed = alone (statistic x a) has formed (λ p is. sound_falsifier k (statistic x a) p has formed is)

pub falsifiers_sound : (k : LogicalType) (rules : List Rule) (e p : Expression) → AllByRecursion (KeepsItsLaw k) rules → HasTruth k e → HasFormedLiterals e →
    fals k rules e ≡ proof p → IsSoundFalsifier k e p
falsifiers_sound k rules e p laws has formed is = so_believed k (NoneOf k e) (fals k rules e) p (believed k rules laws e has formed) is

pub satisfiers_sound : (k : LogicalType) (rules : List Rule) (e p : Expression) → AllByRecursion (KeepsItsLaw k) rules → HasTruth k e → HasFormedLiterals e →
    sat k rules e ≡ proof p → IsSoundSatisfier k e p
satisfiers_sound k rules e p laws has formed is = so_believed k (EachOf k e) (sat k rules e) p
    (at_proofs k (EachOf k e) (satisfiers k e) (satisfy_answers k rules e) (λ q it. sound_satisfier k e q has it) (satisfy_believed k rules e laws has formed)) is
