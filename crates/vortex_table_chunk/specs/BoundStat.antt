-- What bounds of a zone of rows say of its columns.
use Rattle.std.specs.Prelude.{ℕ, List, ◌∷◌, Option, Some, None, if◌then◌else◌}
use Rattle.vortex_model.specs.Content.{Content, null}
use Rattle.vortex_model.specs.Path.{Positions, eq_positions}
use Rattle.vortex_model_table.specs.Expression.{Aggregate}
use Rattle.vortex_stats_bind.specs.Bound.{Bound, Provided, place}
use Rattle.vortex_table_chunk.specs.zones.StatValue.{stat_value}
use Rattle.vortex_stats_array.specs.declared.array_stats.ArrayStats.{ArrayStats}

abbrev pub stat_value_or_null : Option ArrayStats → ℕ → Aggregate → Content
stat_value_or_null None rows a = null
stat_value_or_null (Some b) rows a = stat_value b rows a

-- the bounds of the leaf at these positions; the first bounds belong to the first leaf, and so on
abbrev pub bounds_at : List Positions → List ArrayStats → Positions → Option ArrayStats
bounds_at (js ∷ leaves) (b ∷ bounds) is =
    if eq_positions js is then Some b else bounds_at leaves bounds is
bounds_at leaves bounds is = None

-- the value of a placeholder over the bounds of these leaves
abbrev pub zone_stat : List Positions → List ArrayStats → ℕ → Bound → Aggregate → Content
zone_stat leaves bounds rows (place xs is k) a =
    stat_value_or_null (bounds_at leaves bounds is) rows a
zone_stat leaves bounds rows b a = null

-- what the bounds of the leaves of `rows` rows provide: no column, and the number of rows
abbrev pub zone_provided : List Positions → List ArrayStats → ℕ → Provided
zone_provided leaves bounds rows =
    record { columns = λ is. null; statistics = zone_stat leaves bounds rows; rows = rows }
