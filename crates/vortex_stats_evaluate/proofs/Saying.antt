-- Bound expressions say what their expressions do.
use Rattle.std.proofs.Common.{◌≡◌, refl, sym, ◌∙◌, ℕ, List, Option, Some, None}
use Rattle.vortex_model.specs.LogicalType.{LogicalType}
use Rattle.vortex_model.specs.Content.{Content, null}
use Rattle.vortex_model.specs.Path.{Positions, positions, at}
use Rattle.vortex_model_table.specs.Expression.{Expression, column, Aggregate}
use Rattle.vortex_model_table.specs.Truth.{evaluate}
use Rattle.vortex_stats_bind.specs.Bound.{Bound, evaluate_bound, bound_of, column_at}
use Rattle.vortex_stats_bind.specs.Bindings.{IsBound}
use Rattle.vortex_stats_bind.proofs.Alike.{typed, truth_alike, reads_alike, fault_alike}
use Rattle.vortex_stats_bind.proofs.BoundValues.{proof_says}
use Rattle.vortex_stats_evaluate.specs.declared.column.ColumnStats.{ColumnStats}
use Rattle.vortex_stats_evaluate.specs.InCommon.{BoundExpressionsSayTheSame}
use Rattle.vortex_stats_evaluate.specs.Scopes.{at_row, over_rows, given_at, given_over, told, told_at, told_by}

-- ---- the values of names

placeholder_of_column : (k : LogicalType) (known : List ColumnStats) (rows : ℕ) (xs : List (List ℕ)) (o : Option Positions) (a : Aggregate) →
    told_by known rows (column_at k xs o) a ≡ told_at known rows o a
placeholder_of_column k known rows xs None a = refl
placeholder_of_column k known rows xs (Some is) a = refl

placeholders_alike : (k : LogicalType) (known : List ColumnStats) (rows : ℕ) (e : Expression) (a : Aggregate) → told_by known rows (bound_of k e) a ≡ told k known rows e a
placeholders_alike k known rows (column xs) a = placeholder_of_column k known rows xs (positions k xs) a
placeholders_alike k known rows e a = refl

column_at_row : (k : LogicalType) (known : List ColumnStats) (rows : ℕ) (row : Content) (xs : List (List ℕ)) (o : Option Positions) →
    evaluate_bound (at_row known rows row) (column_at k xs o) ≡ elim o [ None ↦ null | Some is ↦ at row is ]
column_at_row k known rows row xs None = refl
column_at_row k known rows row xs (Some is) = refl

column_over_rows : (k : LogicalType) (known : List ColumnStats) (rows : ℕ) (xs : List (List ℕ)) (o : Option Positions) →
    evaluate_bound (over_rows known rows) (column_at k xs o) ≡ null
column_over_rows k known rows xs None = refl
column_over_rows k known rows xs (Some is) = refl

module _ (k : LogicalType) (e : Expression) (b : Bound) (h : IsBound k e b) where
  row_truth : (known : List ColumnStats) (rows : ℕ) (row : Content) → evaluate_bound (at_row known rows row) b ≡ evaluate (given_at k known rows row) e
  row_truth known rows row = proof_says k e b (at_row known rows row) h.tree ∙ (λ i. evaluate (record {
    columns = λ xs. column_at_row k known rows row xs (positions k xs) i;
    placeholders = λ x a. placeholders_alike k known rows x a i;
    rows = rows;
  }) e)

  proof_truth : (known : List ColumnStats) (rows : ℕ) → evaluate_bound (over_rows known rows) b ≡ evaluate (given_over k known rows) e
  proof_truth known rows = proof_says k e b (over_rows known rows) h.tree ∙ (λ i. evaluate (record {
    columns = λ xs. column_over_rows k known rows xs (positions k xs) i;
    placeholders = λ x a. placeholders_alike k known rows x a i;
    rows = rows;
  }) e)

pub says_the_same : BoundExpressionsSayTheSame
says_the_same k e b h = record {
  value = λ p. proof_says k e b p h.tree;
  at_rows = row_truth k e b h;
  over_rows = proof_truth k e b h;
  kind = typed k e b h;
  truth = sym (truth_alike k e b h);
  columns = sym (reads_alike k e b h);
  fault = sym (fault_alike k e b h);
}
