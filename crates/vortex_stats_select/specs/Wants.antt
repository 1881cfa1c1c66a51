-- The rows where a bound predicate has the truth that is wanted.
use Rattle.std.specs.Prelude.{ℕ, List, Bool, true, false, not, map}
use Rattle.vortex_model.specs.Content.{Content, null}
use Rattle.vortex_model.specs.Path.{Positions, at}
use Rattle.vortex_stats_bind.specs.Bound.{Bound, Provided, evaluate_bound}
use Rattle.vortex_stats_mask.specs.Wanted.{is_wanted}

-- a row of an array, one of `n` rows, about which no statistic is known
abbrev pub row_among : ℕ → Content → Provided
row_among n row = record { columns = at row; statistics = λ x a. null; rows = n }

abbrev pub value_at : Bound → Provided → Content
value_at e row = evaluate_bound row e

-- the column at these positions
abbrev pub values_in : Positions → List Provided → List Content
values_in is rows = map (λ row. row.columns is) rows

abbrev pub wanted_rows : Bool → Bound → List Provided → List Bool
wanted_rows want predicate rows = map (λ row. is_wanted want (value_at predicate row)) rows

-- whether LIKE has the wanted truth, by whether the string matches
abbrev pub wanted_match : Bool → Bool → Bool → Bool
wanted_match true false b = b
wanted_match true true b = not b
wanted_match false false b = not b
wanted_match false true b = b
