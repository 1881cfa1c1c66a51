-- Bound trees have the values of their expressions.
use Rattle.std.proofs.Common.{◌≡◌, true, false, not, refl, ap, ◌∙◌}
use Rattle.vortex_model.specs.LogicalType.{LogicalType}
use Rattle.vortex_model.specs.Content.{boolean, is_null as is_null_content}
use Rattle.vortex_model_table.specs.Expression.{Expression, literal, column, compare, both, either, negation, is_null, is_not_null, is_nan, between, like, row_count, statistic}
use Rattle.vortex_model_table.specs.Truth.{evaluate, compared, kleene_and, kleene_or, kleene_not, liked, end_of}
use Rattle.vortex_stats_bind.specs.Bound.{Bound, Provided, evaluate_bound, bound_of, by_names}

-- A bound tree has the value of its expression, where names have the values of their positions.
pub bound_alike : (k : LogicalType) (p : Provided) (e : Expression) → evaluate_bound p (bound_of k e) ≡ evaluate (by_names k p) e
bound_alike k p (literal l c) = refl
bound_alike k p (column xs) = refl
bound_alike k p (compare o x y) = λ i. compared o (bound_alike k p x i) (bound_alike k p y i)
bound_alike k p (both x y) = λ i. kleene_and (bound_alike k p x i) (bound_alike k p y i)
bound_alike k p (either x y) = λ i. kleene_or (bound_alike k p x i) (bound_alike k p y i)
bound_alike k p (negation x) = ap kleene_not (bound_alike k p x)
bound_alike k p (is_null x) = ap (λ c. boolean (is_null_content c)) (bound_alike k p x)
bound_alike k p (is_not_null x) = ap (λ c. boolean (not (is_null_content c))) (bound_alike k p x)
bound_alike k p (is_nan x) = refl
bound_alike k p (between x lo hi s t) =
    λ i. kleene_and (compared (end_of s) (bound_alike k p lo i) (bound_alike k p x i))
    (compared (end_of t) (bound_alike k p x i) (bound_alike k p hi i))
bound_alike k p (like x form n true) = refl
bound_alike k p (like x form n false) = λ i. liked (bound_alike k p x i) (bound_alike k p form i) n
bound_alike k p row_count = refl
bound_alike k p (statistic x a) = refl

-- a bound proof has the value of the proof
pub proof_says : (k : LogicalType) (e : Expression) (b : Bound) (p : Provided) → b ≡ bound_of k e → evaluate_bound p b ≡ evaluate (by_names k p) e
proof_says k e b p is = ap (evaluate_bound p) is ∙ bound_alike k p e
