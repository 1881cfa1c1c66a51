-- Truths at the rows of an array.
use Rattle.std.proofs.Common.{◌≡◌, refl, ap, ◌∙◌, ℕ, List, map, Bool, true, false, Option, None, ◌-◌, ◌^◌, min, arith}
use Rattle.std.proofs.lemmas.Bool.Decides.{nat_tests}
use Rattle.std.specs.List.{zip}
use Rattle.vortex_model.specs.Content.{Content, null, boolean}
use Rattle.vortex_model.specs.Path.{at}
use Rattle.vortex_model.proofs.Lists.{map_twice}
use Rattle.vortex_model.proofs.Paths.{at_null}
use Rattle.vortex_model_table.specs.Scan.{saturated}
use Rattle.vortex_stats_bind.specs.Bound.{Bound, evaluate_bound}
use Rattle.vortex_stats_bind.specs.OperandValue.{boolean_in}
use Rattle.vortex_stats_bind.specs.Replaced.{answered, replaced, typed_null}
use Rattle.vortex_stats_bind.proofs.ReplacedValues.{replacing_keeps_values}
use Rattle.vortex_stats_mask.specs.Wanted.{is_wanted}
use Rattle.vortex_stats_select.specs.Wants.{row_among, value_at, wanted_rows}
use Rattle.vortex_stats_select.proofs.PairLemmas.{paired}
use Rattle.vortex_stats_evaluate.specs.declared.column.ColumnStats.{ColumnStats}
use Rattle.vortex_stats_evaluate.specs.Scopes.{at_row, over_rows, told_by, answers_by}
use Rattle.vortex_stats_evaluate.specs.Truths.{truth_by}
use Rattle.vortex_stats_evaluate.proofs.Telling.{answers_worth}

-- ---- by masks

told_twice : (c : Content) → truth_by (is_wanted true c) (is_wanted false c) ≡ boolean_in c
told_twice (boolean true) = refl
told_twice (boolean false) = refl
told_twice c = refl

pub by_masks : (n : ℕ) (b : Bound) (rows : List Content) (ys zs : List Bool)
    (truths : List (Option Bool)) → ys ≡ wanted_rows true b (map (row_among n) rows) →
    zs ≡ wanted_rows false b (map (row_among n) rows) →
    truths ≡ map (λ p. truth_by p.0 p.1) (zip ys zs) →
    truths ≡ map (λ row. boolean_in (evaluate_bound (row_among n row) b)) rows
by_masks n b rows ys zs truths e f g =
    g ∙ (λ i. map (λ p. truth_by p.0 p.1) (zip (e i) (f i)))
    ∙ paired truth_by (λ row. is_wanted true (value_at b row)) (λ row. is_wanted false
    (value_at b row)) (map (row_among n) rows)
    ∙ (λ i. map (λ row. told_twice (value_at b row) i) (map (row_among n) rows))
    ∙ map_twice (λ row. boolean_in (value_at b row)) (row_among n) rows

-- ---- where placeholders are bound

module _ (known : List ColumnStats) (n : ℕ) (b bound : Bound)
    (is : bound ≡ replaced (answered None (answers_by known n) (λ k. typed_null k)) b) where
  bound_at : (row : Content) →
      evaluate_bound (row_among n row) bound ≡ evaluate_bound (at_row known n row) b
  bound_at row = ap (evaluate_bound (row_among n row)) is
      ∙ replacing_keeps_values (row_among n row) (at_row known n row)
      (answered None (answers_by known n) (λ k. typed_null k)) b
      (answers_worth known n (at row) (λ x a. null))

  pub rows_bound : (rows : List Content) (truths : List (Option Bool)) →
      truths ≡ map (λ row. boolean_in (evaluate_bound (row_among n row) bound)) rows →
      truths ≡ map (λ row. boolean_in (evaluate_bound (at_row known n row) b)) rows
  rows_bound rows truths e = e ∙ (λ i. map (λ row. boolean_in (bound_at row i)) rows)

  pub proof_bound : (truth : Option Bool) →
      truth ≡ boolean_in (evaluate_bound (row_among n null) bound) →
      truth ≡ boolean_in (evaluate_bound (over_rows known n) b)
  proof_bound truth e = e ∙ ap boolean_in (bound_at null) ∙ (λ i. boolean_in (evaluate_bound
      (record { columns = λ is. at_null is i; statistics = told_by known n; rows = n }) b))

-- counts stop at the greatest number of 64 bits
pub stopped : (n : ℕ) → min n (2 ^ 64 - 1) ≡ saturated n
stopped n = grind (arith, nat_tests)

pub ruleset counted = (stopped)
