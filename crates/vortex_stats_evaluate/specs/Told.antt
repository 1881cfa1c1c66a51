-- From which statistic of a set a placeholder's value comes.
use Rattle.std.specs.Prelude.{◌≡◌, ◌≢◌, Bool, true, false, Option, Some, None}
use Rattle.std.specs.Option.{option_map_or}
use Rattle.vortex_model.specs.LogicalType.{LogicalType}
use Rattle.vortex_model_table.specs.Expression.{Aggregate, min, max, sum, null_count, nan_count, size, min_max, all_null, all_non_null, all_nan, all_non_nan}
use Rattle.vortex_stats_expr.specs.declared.error.StatsError.{StatsError}
use Rattle.vortex_stats_expr.specs.declared.error.StatsError.TheVariants.{UnsupportedAggregate, InvalidStat}
use Rattle.vortex_stats_expr.specs.declared.stat.Stat.{Stat}
use Rattle.vortex_stats_expr.specs.declared.stat.Stat.TheVariants as stat
use Rattle.vortex_stats_set.specs.Pairs.{Pairs, known}
use Rattle.vortex_stats_set.specs.Valid.{is_known_of}

-- the statistic that is read, if one is
abbrev pub told_by : Aggregate → Option Stat
told_by min = Some stat.Min
told_by max = Some stat.Max
told_by sum = Some stat.Sum
told_by null_count = Some stat.NullCount
told_by nan_count = Some stat.NaNCount
told_by size = Some stat.UncompressedSizeInBytes
told_by min_max = None
told_by all_null = Some stat.NullCount
told_by all_non_null = Some stat.NullCount
told_by all_nan = Some stat.NaNCount
told_by all_non_nan = Some stat.NaNCount

-- what is known about it is a value that a column of this type has
abbrev pub is_tellable : LogicalType → Pairs → Aggregate → Bool
is_tellable k xs a = option_map_or (λ s. is_known_of k s (known xs s)) (told_by a) true

-- Why there is no value of a placeholder of this type, if it has one: it has none, and else the
-- statistic that it comes from can't be known.
abbrev pub IsStatFault : StatsError → Option LogicalType → Bool → Type 0
IsStatFault UnsupportedAggregate k tellable = k ≡ None
IsStatFault InvalidStat k tellable = (k ≢ None) × (tellable ≡ false)
IsStatFault e k tellable = ⊥

-- the statistic is how many rows are null, or NaN
abbrev pub IsCountOfRows : Stat → Type 0
IsCountOfRows stat.NullCount = Unit {0}
IsCountOfRows stat.NaNCount = Unit {0}
IsCountOfRows s = ⊥
