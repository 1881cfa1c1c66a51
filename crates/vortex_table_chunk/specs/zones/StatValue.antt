-- What bounds say.
use Rattle.std.specs.Prelude.{ℕ, pos, ◌==◌}
use Rattle.vortex_model.specs.Content.{Content, null, boolean, integer}
use Rattle.vortex_model_table.specs.Expression.{Aggregate, min, max, null_count, all_null, all_non_null}
use Rattle.vortex_model_table.specs.Statistics.{shown}
use Rattle.vortex_stats_array.specs.Zones.{bound_content}
use Rattle.vortex_stats_array.specs.declared.array_stats.ArrayStats.{ArrayStats}

-- the statistics that bounds of n rows have
abbrev pub stat_value : ArrayStats → ℕ → Aggregate → Content
stat_value b rows min = shown (bound_content b.min)
stat_value b rows max = shown (bound_content b.max)
stat_value b rows null_count = integer (pos b.null_count)
stat_value b rows all_null = boolean (b.null_count == rows)
stat_value b rows all_non_null = boolean (b.null_count == 0)
stat_value b rows a = null
