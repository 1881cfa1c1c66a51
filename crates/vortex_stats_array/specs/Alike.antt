-- Statistics that are alike.
use Rattle.std.specs.Prelude.{◌≡◌}
use Rattle.vortex_model.specs.Content.{Raw}
use Rattle.vortex_model_table.specs.Statistics.{Precision}
use Rattle.vortex_scalar_value.specs.View.{raw_of}
use Rattle.vortex_scalar_value.specs.declared.scalar_value.ScalarValue.{ScalarValue}
use Rattle.vortex_stats_bound.specs.Precision.{precision_of, precision_map}
use Rattle.vortex_stats_bound.specs.declared.precision.Precision as known
use Rattle.vortex_stats_array.specs.declared.array_stats.ArrayStats.{ArrayStats}

-- the raw value of a bound, with the same precision
abbrev pub raw_bound : known.Precision ScalarValue → Precision Raw
raw_bound bound = precision_map raw_of (precision_of bound)

-- both are the statistics of one column
pub record SaysTheSame (old new : ArrayStats) : Type 0 where
  pub min : raw_bound new.min ≡ raw_bound old.min
  pub max : raw_bound new.max ≡ raw_bound old.max
  pub nulls : new.null_count ≡ old.null_count
  pub rows : new.row_count ≡ old.row_count
  pub sum : new.sum ≡ old.sum
  pub constant : new.is_constant ≡ old.is_constant
