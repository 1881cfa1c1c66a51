-- Proofs whose placeholders a binder has replaced.
use Rattle.std.specs.Prelude.{List}
use Rattle.std.specs.List.{AllByRecursion}
use Rattle.vortex_model.specs.LogicalType.{LogicalType}
use Rattle.vortex_model.specs.Content.{Content}
use Rattle.vortex_model.specs.Valid.{IsContent}
use Rattle.vortex_model_table.specs.Expression.{Expression, literal, column, compare, both, either, negation, is_null, is_not_null, is_nan, between, like, row_count, statistic, Aggregate}
use Rattle.vortex_model_table.specs.Truth.{evaluate, Satisfies}
use Rattle.vortex_model_table.specs.Sound.{Placeholders, AreHonest, of_proof, Proves, IsSoundFalsifier, IsSoundSatisfier}

-- what replaces a placeholder: an expression, as a literal, or another placeholder
abbrev pub Binder : Type 0
Binder = Expression → Aggregate → Expression

-- The proof with each placeholder replaced. What replaces it isn't bound again.
abbrev pub bound : Binder → Expression → Expression
bound binder (literal k c) = literal k c
bound binder (column xs) = column xs
bound binder (compare op x y) = compare op (bound binder x) (bound binder y)
bound binder (both x y) = both (bound binder x) (bound binder y)
bound binder (either x y) = either (bound binder x) (bound binder y)
bound binder (negation x) = negation (bound binder x)
bound binder (is_null x) = is_null (bound binder x)
bound binder (is_not_null x) = is_not_null (bound binder x)
bound binder (is_nan x) = is_nan (bound binder x)
bound binder (between x lo hi lower_strict upper_strict) =
    between (bound binder x) (bound binder lo) (bound binder hi) lower_strict upper_strict
bound binder (like x form negated ignores_case) =
    like (bound binder x) (bound binder form) negated ignores_case
bound binder row_count = row_count
bound binder (statistic x a) = binder x a

-- the values of what replaces placeholders, given those of the placeholders left in it
abbrev pub answered : Placeholders → List Content → Binder → Placeholders
answered left rows binder x a = evaluate (of_proof left rows) (binder x a)

-- Each placeholder is replaced by null, or by its value by honest statistics of its input over
-- these rows.
abbrev pub IsHonestBinder : LogicalType → List Content → Placeholders → Binder → Type 0
IsHonestBinder k rows left binder = AreHonest k rows (answered left rows binder)

-- A sound falsifier bound by an honest binder is true only where no row satisfies the predicate.
abbrev pub BoundFalsifiersAreSound : Type 0
BoundFalsifiersAreSound =
    (k : LogicalType) (e proof : Expression) (rows : List Content) (left : Placeholders)
    (binder : Binder) → IsSoundFalsifier k e proof →
    AllByRecursion (IsContent k) rows → IsHonestBinder k rows left binder →
    Proves left rows (bound binder proof) → AllByRecursion (λ row. ¬ (Satisfies k e row)) rows

-- a sound satisfier bound by an honest binder is true only where each row satisfies the predicate
abbrev pub BoundSatisfiersAreSound : Type 0
BoundSatisfiersAreSound =
    (k : LogicalType) (e proof : Expression) (rows : List Content) (left : Placeholders)
    (binder : Binder) → IsSoundSatisfier k e proof →
    AllByRecursion (IsContent k) rows → IsHonestBinder k rows left binder →
    Proves left rows (bound binder proof) → AllByRecursion (λ row. Satisfies k e row) rows
