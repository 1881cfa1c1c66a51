-- Statistics of rows in which the values of an array occur.
use Rattle.std.specs.Prelude.{◌≡◌, List, length, Option}
use Rattle.std.specs.Borrow.{Bor}
use Rattle.vortex_model.specs.LogicalType.{Nullability, with_nullability}
use Rattle.vortex_model.specs.Content.{Content}
use Rattle.vortex_model_table.specs.ZoneMap.{zone_of}
use Rattle.vortex_dtype_core.specs.View.{type_of}
use Rattle.vortex_arrays_model.specs.Layout.{Layout, len_of, content_at, array_type_of}
use Rattle.vortex_stats_array.specs.Counted.{StandIn}
use Rattle.vortex_stats_array.specs.Running.{DoCompare}
use Rattle.vortex_stats_array.specs.Sums.{IsSumIn}
use Rattle.vortex_stats_array.specs.Zones.{zone_in, HasBoundsIn}
use Rattle.vortex_stats_array.specs.declared.array_stats.ArrayStats.{ArrayStats}
use Rattle.vortex_stats_array.specs.declared.asked.Asked.{Asked}
use Rattle.vortex_stats_array.specs.declared.counts.Counts.{Counts}

-- The statistics are those of any rows in which the array's values occur, each once or as often as
-- counted. Their bounds are values of the array's type, up to nullability.
pub record AreStatsOf (asked : Asked) (counts : Option (Bor Counts)) (a : Layout)
    (stats : ArrayStats) : Type 0 where
  pub zone : (rows : List Content) → StandIn counts (content_at a) (len_of a) rows →
      DoCompare rows → length rows ≡ asked.row_count →
      zone_in stats ≡ zone_of (type_of asked.dtype.now) asked.max_length rows
  pub bounds : (n : Nullability) → HasBoundsIn (with_nullability n (array_type_of a)) stats
  pub sum : IsSumIn (type_of asked.dtype.now) stats.sum
