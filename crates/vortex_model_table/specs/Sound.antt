-- When a falsifier or a satisfier is sound.
use Rattle.std.specs.Prelude.{◌≡◌, List, map, length, ◌⊎◌, true, false}
use Rattle.std.specs.List.{AllByRecursion}
use Rattle.vortex_model.specs.LogicalType.{LogicalType}
use Rattle.vortex_model.specs.Content.{Content, null, boolean}
use Rattle.vortex_model.specs.Valid.{IsContent}
use Rattle.vortex_model_table.specs.Expression.{Expression, Aggregate, reads_columns}
use Rattle.vortex_model_table.specs.Truth.{Given, evaluate, value_at, Satisfies}
use Rattle.vortex_model_table.specs.Statistics.{Statistics, IsHonest, placeholder_value}

-- the values of placeholders
abbrev pub Placeholders : Type 0
Placeholders = Expression → Aggregate → Content

-- Each placeholder is null, or is its value by honest statistics of its input over these rows.
abbrev pub AreHonest : LogicalType → List Content → Placeholders → Type 0
AreHonest k rows given = (x : Expression) (a : Aggregate) →
    (given x a ≡ null) ⊎ ((s : Statistics) × IsHonest s (map (value_at k x) rows) ×
    (given x a ≡ placeholder_value a s (length rows)))

-- a proof is evaluated over placeholders, with null for each column
abbrev pub of_proof : Placeholders → List Content → Given
of_proof given rows = record { columns = λ xs. null; placeholders = given; rows = length rows }

-- The proof is true over these rows. One that reads a column outside of placeholders never is.
abbrev pub Proves : Placeholders → List Content → Expression → Type 0
Proves given rows proof =
    (reads_columns proof ≡ false) × (evaluate (of_proof given rows) proof ≡ boolean true)

-- Where the proof is true over rows of the type, none of them satisfies the predicate.
abbrev pub IsSoundFalsifier : LogicalType → Expression → Expression → Type 0
IsSoundFalsifier k e proof = (rows : List Content) (given : Placeholders) →
    AllByRecursion (IsContent k) rows → AreHonest k rows given → Proves given rows proof →
    AllByRecursion (λ row. ¬ (Satisfies k e row)) rows

-- Where the proof is true over rows of the type, each of them satisfies the predicate.
abbrev pub IsSoundSatisfier : LogicalType → Expression → Expression → Type 0
IsSoundSatisfier k e proof = (rows : List Content) (given : Placeholders) →
    AllByRecursion (IsContent k) rows → AreHonest k rows given → Proves given rows proof →
    AllByRecursion (λ row. Satisfies k e row) rows
