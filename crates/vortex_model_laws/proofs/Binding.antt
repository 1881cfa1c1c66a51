-- A bound proof has the value of the proof where placeholders have the values of what replaced
-- them.
use Rattle.std.proofs.Common.{◌≡◌, refl, sym, ◌∙◌, List, Bool, true, false, not, ◌||◌}
use Rattle.std.specs.List.{AllByRecursion}
use Rattle.std.proofs.lemmas.Bool.{or_from}
use Rattle.vortex_model.specs.LogicalType.{LogicalType}
use Rattle.vortex_model.specs.Content.{Content, boolean, is_null as is_null_content}
use Rattle.vortex_model.specs.Valid.{IsContent}
use Rattle.vortex_model.proofs.Booleans.{or_false_left, or_false_right}
use Rattle.vortex_model_table.specs.Expression.{Expression, literal, column, compare, both, either, negation, is_null, is_not_null, is_nan, between, like, row_count, statistic, reads_columns}
use Rattle.vortex_model_table.specs.Truth.{evaluate, compared, kleene_and, kleene_or, kleene_not, end_of, liked, Satisfies}
use Rattle.vortex_model_table.specs.Sound.{Placeholders, of_proof, Proves, IsSoundFalsifier, IsSoundSatisfier}
use Rattle.vortex_model_laws.specs.Binding.{Binder, bound, answered, IsHonestBinder}

module _ (left : Placeholders) (rows : List Content) (binder : Binder) where
  bound_value : (p : Expression) → evaluate (of_proof left rows) (bound binder p) ≡ evaluate (of_proof (answered left rows binder) rows) p
  bound_value (literal k c) = refl
  bound_value (column xs) = refl
  bound_value (compare op x y) = λ i. compared op (bound_value x i) (bound_value y i)
  bound_value (both x y) = λ i. kleene_and (bound_value x i) (bound_value y i)
  bound_value (either x y) = λ i. kleene_or (bound_value x i) (bound_value y i)
  bound_value (negation x) = λ i. kleene_not (bound_value x i)
  bound_value (is_null x) = λ i. boolean (is_null_content (bound_value x i))
  bound_value (is_not_null x) = λ i. boolean (not (is_null_content (bound_value x i)))
  bound_value (is_nan x) = refl
  bound_value (between x lo hi s t) = λ i. kleene_and (compared (end_of s) (bound_value lo i) (bound_value x i)) (compared (end_of t) (bound_value x i) (bound_value hi i))
  bound_value (like x form n true) = refl
  bound_value (like x form n false) = λ i. liked (bound_value x i) (bound_value form i) n
  bound_value row_count = refl
  bound_value (statistic x a) = refl

  two_read_none : (x y : Expression) → (reads_columns (bound binder x) ≡ false → reads_columns x ≡ false) → (reads_columns (bound binder y) ≡ false → reads_columns y ≡ false) →
      reads_columns (bound binder x) || reads_columns (bound binder y) ≡ false → reads_columns x || reads_columns y ≡ false
  two_read_none x y f g e =
      or_from (reads_columns x) (reads_columns y) (f (or_false_left (reads_columns (bound binder x)) (reads_columns (bound binder y)) e))
      (g (or_false_right (reads_columns (bound binder x)) (reads_columns (bound binder y)) e))

  -- where the bound proof reads no column, the proof reads none outside of placeholders
  reads_none : (p : Expression) → reads_columns (bound binder p) ≡ false → reads_columns p ≡ false
  reads_none (literal k c) e = e
  reads_none (column xs) e = e
  reads_none (compare op x y) e = two_read_none x y (reads_none x) (reads_none y) e
  reads_none (both x y) e = two_read_none x y (reads_none x) (reads_none y) e
  reads_none (either x y) e = two_read_none x y (reads_none x) (reads_none y) e
  reads_none (negation x) e = reads_none x e
  reads_none (is_null x) e = reads_none x e
  reads_none (is_not_null x) e = reads_none x e
  reads_none (is_nan x) e = reads_none x e
  reads_none (between x lo hi s t) e =
      let b : Bool = reads_columns (bound binder x) in let c : Bool = reads_columns (bound binder lo) in let d : Bool = reads_columns (bound binder hi) in
      or_from (reads_columns x || reads_columns lo) (reads_columns hi) (two_read_none x lo (reads_none x) (reads_none lo) (or_false_left (b || c) d e)) (reads_none hi (or_false_right (b || c) d e))
  reads_none (like x form n i) e = two_read_none x form (reads_none x) (reads_none form) e
  reads_none row_count e = e
  reads_none (statistic x a) e = refl

  unbound : (proof : Expression) → Proves left rows (bound binder proof) → Proves (answered left rows binder) rows proof
  unbound proof h = (reads_none proof h.0, sym (bound_value proof) ∙ h.1)

pub bound_falsifier : (k : LogicalType) (e proof : Expression) (rows : List Content) (left : Placeholders) (binder : Binder) → IsSoundFalsifier k e proof →
    AllByRecursion (IsContent k) rows → IsHonestBinder k rows left binder → Proves left rows (bound binder proof) → AllByRecursion (λ row. ¬ (Satisfies k e row)) rows
bound_falsifier k e proof rows left binder sound typed honest h = sound rows (answered left rows binder) typed honest (unbound left rows binder proof h)

pub bound_satisfier : (k : LogicalType) (e proof : Expression) (rows : List Content) (left : Placeholders) (binder : Binder) → IsSoundSatisfier k e proof →
    AllByRecursion (IsContent k) rows → IsHonestBinder k rows left binder → Proves left rows (bound binder proof) → AllByRecursion (λ row. Satisfies k e row) rows
bound_satisfier k e proof rows left binder sound typed honest h = sound rows (answered left rows binder) typed honest (unbound left rows binder proof h)
