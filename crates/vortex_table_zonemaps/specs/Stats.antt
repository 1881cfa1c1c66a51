-- Zones of rows, and their statistics.
use Rattle.std.specs.Prelude.{ℕ, pos, List, map, take, drop, slice_get}
use Rattle.vortex_model.specs.Content.{Content, integer}
use Rattle.vortex_model_table.specs.Expression.{Aggregate}
use Rattle.vortex_arrays_model.specs.Layout.{len_of}
use Rattle.vortex_table_chunk.specs.BoundStat.{stat_value_or_null}
use Rattle.vortex_table_chunk.specs.declared.chunk.Chunk.{Chunk}
use Rattle.vortex_stats_array.specs.declared.array_stats.ArrayStats.{ArrayStats}

-- the statistics of each leaf column, and the number of rows
abbrev pub Zone : Type 0
Zone = List ArrayStats × ℕ

abbrev pub zone_of : Chunk → Zone
zone_of chunk = (chunk.bounds.items, len_of chunk.array)

-- `count` neighbouring zones from the first on
abbrev pub zones_in : List Chunk → ℕ → ℕ → List Zone
zones_in chunks first count = map zone_of (take count (drop first chunks))

-- what a statistic of the leaf at an index says
abbrev pub leaf_stat : ℕ → Aggregate → Zone → Content
leaf_stat j a zone = stat_value_or_null (slice_get zone.0 j) zone.1 a

abbrev pub rows_stat : Zone → Content
rows_stat zone = integer (pos zone.1)
