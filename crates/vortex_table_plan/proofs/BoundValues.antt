-- Bound predicates have the values of their expressions at a row.
use Rattle.std.proofs.Common.{◌≡◌, Option, Some, None, refl, ap, ◌∙◌}
use Rattle.vortex_model.specs.LogicalType.{LogicalType}
use Rattle.vortex_model.specs.Content.{Content, null}
use Rattle.vortex_model.specs.Path.{Names, Positions, at, positions}
use Rattle.vortex_model_table.specs.Expression.{Expression}
use Rattle.vortex_model_table.specs.Truth.{evaluate, of_row, value_at}
use Rattle.vortex_stats_bind.specs.Bindings.{IsBound}
use Rattle.vortex_stats_bind.specs.Bound.{Bound, evaluate_bound, in_row, bound_value, column_at, by_names}
use Rattle.vortex_stats_bind.proofs.BoundValues.{proof_says}

column_in_row : (k : LogicalType) (xs : Names) (o : Option Positions) (row : Content) →
    evaluate_bound (in_row row) (column_at k xs o) ≡ elim o [ None ↦ null | Some is ↦ at row is ]
column_in_row k xs None row = refl
column_in_row k xs (Some is) row = refl

-- the values of names at a row
row_given : (k : LogicalType) (row : Content) → by_names k (in_row row) ≡ of_row k row
row_given k row = λ i. record { columns = λ xs. column_in_row k xs (positions k xs) row i; placeholders = λ x a. null; rows = 1 }

pub bound_says : (k : LogicalType) (e : Expression) (b : Bound) → IsBound k e b → (row : Content) → bound_value b row ≡ value_at k e row
bound_says k e b is row = proof_says k e b (in_row row) is.tree ∙ ap (λ g. evaluate g e) (row_given k row)
