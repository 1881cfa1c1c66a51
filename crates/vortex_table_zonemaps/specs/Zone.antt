-- Zones as rows of zone maps.
use Rattle.std.specs.Prelude.{zero, suc, [], ◌∷◌, Option, Some, None}
use Rattle.vortex_model.specs.Content.{Content, null}
use Rattle.vortex_model.specs.Path.{Positions}
use Rattle.vortex_model_table.specs.Expression.{min, max, null_count}
use Rattle.vortex_stats_bind.specs.Bound.{Provided}
use Rattle.vortex_table_zonemaps.specs.Stats.{Zone, leaf_stat, rows_stat}
use Rattle.vortex_table_zonemaps.specs.declared.operands.ZoneRow.{ZoneRow}
use Rattle.vortex_table_zonemaps.specs.declared.place.ZoneStat.{ZoneStat}
use Rattle.vortex_table_zonemaps.specs.declared.place.ZoneStat.TheVariants as stat

-- what a column of the zone maps has in a zone
abbrev pub stat_in : ZoneStat → Zone → Content
stat_in (stat.Low j) zone = leaf_stat j min zone
stat_in (stat.High j) zone = leaf_stat j max zone
stat_in (stat.NullCount j) zone = leaf_stat j null_count zone
stat_in stat.Rows zone = rows_stat zone

-- ---- a zone as a row

-- the positions of a column in a row
abbrev pub positions_of : ZoneStat → Positions
positions_of (stat.Low j) = 0 ∷ j ∷ 0 ∷ []
positions_of (stat.High j) = 0 ∷ j ∷ 1 ∷ []
positions_of (stat.NullCount j) = 0 ∷ j ∷ 2 ∷ []
positions_of stat.Rows = 1 ∷ []

-- the column at positions
abbrev pub stat_of : Positions → Option ZoneStat
stat_of (zero ∷ j ∷ zero ∷ []) = Some (stat.Low j)
stat_of (zero ∷ j ∷ suc zero ∷ []) = Some (stat.High j)
stat_of (zero ∷ j ∷ suc (suc zero) ∷ []) = Some (stat.NullCount j)
stat_of (suc zero ∷ []) = Some stat.Rows
stat_of is = None

abbrev pub stat_or_null : Option ZoneStat → Zone → Content
stat_or_null None zone = null
stat_or_null (Some s) zone = stat_in s zone

-- its columns alone, and no placeholder
abbrev pub columns_of : Zone → Provided
columns_of zone = record {
  columns = λ is. stat_or_null (stat_of is) zone;
  statistics = λ x a. null;
  rows = 1;
}

abbrev pub provided_by : ZoneRow → Provided
provided_by row = columns_of (row.bounds.now, row.rows)
