-- The rule that a comparison with an all-null side selects nothing is sound.
use Rattle.std.proofs.Common.{◌≡◌, refl, ap, subst, List, [], ◌∷◌, Bool, true, false, not, ◌&&◌, ◌||◌, if◌then◌else◌, Option, Some, None, inl, inr}
use Rattle.std.specs.List.{AllByRecursion}
use Rattle.std.specs.Cmp.{first_so, second_so}
use Rattle.vortex_model.specs.LogicalType.{LogicalType}
use Rattle.vortex_model.specs.Content.{Content, null, boolean, is_null as is_null_content}
use Rattle.vortex_model.proofs.Booleans.{or_false_left, or_false_right}
use Rattle.vortex_model_table.specs.Expression.{Expression, literal, compare, either, is_not_null, Comparison, reads_columns, HasFormedLiterals}
use Rattle.vortex_model_table.specs.Truth.{evaluate, value_at, has_truth, HasTruth, Satisfies}
use Rattle.vortex_model_table.specs.Typing.{is_of_floats}
use Rattle.vortex_model_table.specs.Rewrite.{either_there}
use Rattle.vortex_model_table.specs.Sound.{of_proof, IsSoundFalsifier}
use Rattle.vortex_model_laws.proofs.Hopeless.{or_one}
use Rattle.vortex_model_laws.proofs.Honesty.{sound_falsifier}
use Rattle.vortex_model_rules.specs.Rules.{proof, no_proof, judged, asked, of_binary}
use Rattle.vortex_model_rules.specs.NullComparison.{only_nulls, null_side, null_comparison}
use Rattle.vortex_model_rules.specs.Laws.{KeepsItsLaw}
use Rattle.vortex_model_rules.proofs.PushNot.{each_so, of_asked}

-- a comparison that is true has no null side
left_there : (b c : Bool) (d : Content) → (if b || c then null else d) ≡ boolean true → b ≡ false
left_there true c d e = absurd (cc (e))
left_there false c d e = refl

right_there : (b c : Bool) (d : Content) → (if b || c then null else d) ≡ boolean true → c ≡ false
right_there true c d e = absurd (cc (e))
right_there false true d e = absurd (cc (e))
right_there false false d e = refl

every : (P : Content → Type 0) → ((row : Content) → P row) → (rows : List Content) → AllByRecursion P rows
every P h [] = tt
every P h (row ∷ rows) = (h row, every P h rows)

module _ (k : LogicalType) where
  of_literal : (l : LogicalType) (c : Content) (p : Expression) → only_nulls k (literal l c) ≡ Some p → IsSoundFalsifier k (is_not_null (literal l c)) p
  of_literal l null p is rows given typed honest t = every (λ row. ¬ (Satisfies k (is_not_null (literal l null)) row)) (λ row s. cc (s)) rows
  of_literal l c p is rows given typed honest t = absurd (cc (is))

  -- the proof that a side is null at each row is a sound falsifier of IS NOT NULL
  side : (x p : Expression) → HasTruth k x → HasFormedLiterals x → only_nulls k x ≡ Some p → IsSoundFalsifier k (is_not_null x) p
  side (literal l c) p has formed is = of_literal l c p is
  side x p has formed is = sound_falsifier k (is_not_null x) p has formed is

  either_sound : (e p q : Expression) → IsSoundFalsifier k e p → IsSoundFalsifier k e q → IsSoundFalsifier k e (either p q)
  either_sound e p q f g rows given typed honest t = elim (or_one (evaluate (of_proof given rows) p) (evaluate (of_proof given rows) q) t.1) [
    | inl s ↦ f rows given typed honest (or_false_left (reads_columns p) (reads_columns q) t.0, s)
    | inr s ↦ g rows given typed honest (or_false_right (reads_columns p) (reads_columns q) t.0, s)
  ]

  module _ (op : Comparison) (x y : Expression) where
    by_left : (p : Expression) → IsSoundFalsifier k (is_not_null x) p → IsSoundFalsifier k (compare op x y) p
    by_left p sound rows given typed honest t =
        each_so (λ row. ¬ (Satisfies k (is_not_null x) row)) (λ row. ¬ (Satisfies k (compare op x y) row))
        (λ row n s. n (ap (λ b. boolean (not b)) (left_there (is_null_content (value_at k x row)) (is_null_content (value_at k y row)) _ s))) rows (sound rows given typed honest t)

    by_right : (p : Expression) → IsSoundFalsifier k (is_not_null y) p → IsSoundFalsifier k (compare op x y) p
    by_right p sound rows given typed honest t =
        each_so (λ row. ¬ (Satisfies k (is_not_null y) row)) (λ row. ¬ (Satisfies k (compare op x y) row))
        (λ row n s. n (ap (λ b. boolean (not b)) (right_there (is_null_content (value_at k x row)) (is_null_content (value_at k y row)) _ s))) rows (sound rows given typed honest t)

    of_two : (o q : Option Expression) (p : Expression) → ((r : Expression) → o ≡ Some r → IsSoundFalsifier k (is_not_null x) r) →
        ((r : Expression) → q ≡ Some r → IsSoundFalsifier k (is_not_null y) r) → either_there o q ≡ Some p → IsSoundFalsifier k (compare op x y) p
    of_two (Some u) (Some v) p f g is =
        let same : either u v ≡ p = cc (is) in subst (IsSoundFalsifier k (compare op x y)) same (either_sound (compare op x y) u v (by_left u (f u refl)) (by_right v (g v refl)))
    of_two (Some u) None p f g is = by_left p (f p is)
    of_two None (Some v) p f g is = by_right p (g p is)
    of_two None None p f g is = absurd (cc (is))

  falsifies : (e p : Expression) → HasTruth k e → HasFormedLiterals e → asked of_binary null_side k e ≡ proof p → IsSoundFalsifier k e p
  falsifies (compare op x y) p has formed is =
      let parts = second_so (not (is_of_floats k x || is_of_floats k y)) (has_truth k x && has_truth k y) has in
      of_two op x y (only_nulls k x) (only_nulls k y) p (λ r it. side x r (first_so (has_truth k x) (has_truth k y) parts) formed.0 it)
      (λ r it. side y r (second_so (has_truth k x) (has_truth k y) parts) formed.1 it) (of_asked true k (either_there (only_nulls k x) (only_nulls k y)) p is)
  falsifies e p has formed is = absurd (cc (is))

nothing : (b : Bool) (k : LogicalType) (p : Expression) → (if b then judged k no_proof else no_proof) ≡ proof p → ⊥
nothing true k p e = cc (e)
nothing false k p e = cc (e)

pub keeps_its_law : (k : LogicalType) → KeepsItsLaw k null_comparison
keeps_its_law k = record {
  falsifies = λ e p has formed is. falsifies k e p has formed is;
  satisfies = λ e p has formed is. absurd (nothing _ k p is);
}
