-- What a bound expression has in common with the expression that it was bound from.
use Rattle.std.specs.Prelude.{◌≡◌, ℕ, List, Some}
use Rattle.vortex_model.specs.LogicalType.{LogicalType}
use Rattle.vortex_model.specs.Content.{Content}
use Rattle.vortex_model_table.specs.Expression.{Expression, reads_columns as reads_names}
use Rattle.vortex_model_table.specs.Truth.{evaluate, has_truth as truth_of}
use Rattle.vortex_model_table.specs.Typing.{expression_type}
use Rattle.vortex_stats_bind.specs.Bound.{Bound, Provided, evaluate_bound, by_names, value_type}
use Rattle.vortex_stats_bind.specs.Bindings.{IsBound}
use Rattle.vortex_stats_bind.specs.Truths.{has_truth, reads_columns, first_fault, first_fault_of}
use Rattle.vortex_stats_evaluate.specs.Scopes.{at_row, over_rows, given_at, given_over}
use Rattle.vortex_stats_evaluate.specs.declared.column.ColumnStats.{ColumnStats}

-- Its value wherever names have the values of their positions, and so at a row of a scope and over
-- statistics of its rows; its type, and whether it has a truth, reads columns and is a proof.
pub record SaysWhat (k : LogicalType) (e : Expression) (b : Bound) : Type 0 where
  pub value : (p : Provided) → evaluate_bound p b ≡ evaluate (by_names k p) e
  pub at_rows : (known : List ColumnStats) (rows : ℕ) (row : Content) →
      evaluate_bound (at_row known rows row) b ≡ evaluate (given_at k known rows row) e
  pub over_rows : (known : List ColumnStats) (rows : ℕ) →
      evaluate_bound (over_rows known rows) b ≡ evaluate (given_over k known rows) e
  pub kind : expression_type k e ≡ Some (value_type b)
  pub truth : has_truth b ≡ truth_of k e
  pub columns : reads_columns b ≡ reads_names e
  pub fault : first_fault b ≡ first_fault_of k e

-- What is bound has the value, the type and the faults of its expression.
abbrev pub BoundExpressionsSayTheSame : Type 0
BoundExpressionsSayTheSame = (k : LogicalType) (e : Expression) (b : Bound) → IsBound k e b →
    SaysWhat k e b
