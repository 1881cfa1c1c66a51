-- The names of aggregate functions.
use Rattle.std.specs.Prelude.{ℕ, List, codes}
use Rattle.vortex_stats_expr.specs.declared.aggregate.AggregateFn.{AggregateFn}
use Rattle.vortex_stats_expr.specs.declared.aggregate.AggregateFn.TheVariants as aggregate

abbrev pub name_of_aggregate : AggregateFn → List ℕ
name_of_aggregate aggregate.Min = codes "min"
name_of_aggregate aggregate.Max = codes "max"
name_of_aggregate aggregate.Sum = codes "sum"
name_of_aggregate aggregate.NullCount = codes "null_count"
name_of_aggregate aggregate.NanCount = codes "nan_count"
name_of_aggregate aggregate.UncompressedSizeInBytes = codes "uncompressed_size_in_bytes"
name_of_aggregate aggregate.MinMax = codes "min_max"
name_of_aggregate aggregate.AllNull = codes "all_null"
name_of_aggregate aggregate.AllNonNull = codes "all_non_null"
name_of_aggregate aggregate.AllNan = codes "all_nan"
name_of_aggregate aggregate.AllNonNan = codes "all_non_nan"
