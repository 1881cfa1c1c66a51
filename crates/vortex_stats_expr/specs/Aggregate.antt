-- The model's aggregates of the aggregate functions.
use Rattle.vortex_model_table.specs.Expression.{Aggregate, min, max, sum, null_count, nan_count, size, min_max, all_null, all_non_null, all_nan, all_non_nan}
use Rattle.vortex_stats_expr.specs.declared.aggregate.AggregateFn.{AggregateFn}
use Rattle.vortex_stats_expr.specs.declared.aggregate.AggregateFn.TheVariants as aggregate

abbrev pub aggregate_of : AggregateFn → Aggregate
aggregate_of aggregate.Min = min
aggregate_of aggregate.Max = max
aggregate_of aggregate.Sum = sum
aggregate_of aggregate.NullCount = null_count
aggregate_of aggregate.NanCount = nan_count
aggregate_of aggregate.UncompressedSizeInBytes = size
aggregate_of aggregate.MinMax = min_max
aggregate_of aggregate.AllNull = all_null
aggregate_of aggregate.AllNonNull = all_non_null
aggregate_of aggregate.AllNan = all_nan
aggregate_of aggregate.AllNonNan = all_non_nan
