-- What a refusal of a predicate says.
use Rattle.std.specs.Prelude.{◌≡◌, ◌≢◌, ◌⊎◌, ℕ, List, Bool, true, false, Option, Some, None, Result, Ok, Err}
use Rattle.vortex_model.specs.LogicalType.{LogicalType}
use Rattle.vortex_model.specs.Refusal.{Refusal, or_else}
use Rattle.vortex_model.specs.Content.{text}
use Rattle.vortex_model_table.specs.Expression.{Expression, literal}
use Rattle.vortex_model_table.specs.Typing.{expression_type}
use Rattle.vortex_model_table.specs.Command.{expression_fault}
use Rattle.vortex_table_schema.specs.Error.{Explains}
use Rattle.vortex_table_schema.specs.declared.error.TableError.{TableError}
use Rattle.vortex_table_schema.specs.declared.error.TableError.TheVariants as error
use Rattle.vortex_stats_expr.specs.declared.types.Leaf.{Leaf}
use Rattle.vortex_stats_expr.specs.declared.types.Leaf.TheVariants as leaf
use Rattle.vortex_stats_expr.specs.Types.{IsLeaf}

-- memory ran out, or the error is this fault
abbrev pub IsReason : TableError → Option Refusal → Type 0
IsReason e fault = Explains ⊥ fault e

-- what was found of an expression: its type, if it has no fault, and else the fault
abbrev pub IsChecked : LogicalType → Expression → Result Leaf TableError → Type 0
IsChecked k e (Ok l) = (expression_fault k e ≡ None) × IsLeaf l (expression_type k e)
IsChecked k e (Err r) = IsReason r (expression_fault k e)

-- what was found of two expressions: their types, if none has a fault, and else the first fault
abbrev pub AreChecked : LogicalType → Expression → Expression →
    Result (Leaf × Leaf) TableError → Type 0
AreChecked k x y (Ok leaves) = IsChecked k x (Ok leaves.0) × IsChecked k y (Ok leaves.1)
AreChecked k x y (Err r) = IsReason r (or_else (expression_fault k x) (expression_fault k y))

-- the type of NOT
abbrev pub truth_of : Leaf → Result Leaf TableError
truth_of leaf.Bool = Ok leaf.Bool
truth_of a = Err error.NotBoolean

-- the type of a connective
abbrev pub truths_of : Leaf → Leaf → Result Leaf TableError
truths_of leaf.Bool leaf.Bool = Ok leaf.Bool
truths_of a b = Err error.NotBoolean

-- the type of a comparison of two types
abbrev pub IsSameOf : Leaf → Leaf → Result Leaf TableError → Type 0
IsSameOf a b (Ok l) = (l ≡ leaf.Bool) × (a ≡ b)
IsSameOf a b (Err r) = (r ≡ error.UnequalTypes) × (a ≢ b)

-- the type of BETWEEN of a value and two ends
abbrev pub IsRangeOf : Leaf → Leaf → Leaf → Result Leaf TableError → Type 0
IsRangeOf a b c (Ok l) = (l ≡ leaf.Bool) × (a ≡ b) × (a ≡ c)
IsRangeOf a b c (Err r) = (r ≡ error.UnequalTypes) × ((a ≢ b) ⊎ (a ≢ c))

-- the type of a LIKE of a value and a pattern, which is supported or not
abbrev pub like_of : Leaf → Leaf → Bool → Result Leaf TableError
like_of leaf.Utf8 leaf.Utf8 true = Ok leaf.Bool
like_of leaf.Utf8 leaf.Utf8 false = Err error.UnsupportedLike
like_of a b supported = Err error.UnequalTypes

-- the string, where it is a literal one
abbrev pub literal_text : Expression → Option (List ℕ)
literal_text (literal k (text form)) = Some form
literal_text e = None
