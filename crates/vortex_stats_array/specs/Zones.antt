-- Statistics of an array as the zone map of its rows.
use Rattle.std.specs.Prelude.{◌≡◌, true, ℕ, Bool, Option, Some, None}
use Rattle.vortex_model.specs.LogicalType.{LogicalType}
use Rattle.vortex_model.specs.Content.{Content}
use Rattle.vortex_model_table.specs.Bounds.{low, high, is_longer}
use Rattle.vortex_model_table.specs.Statistics.{Precision, exact, absent}
use Rattle.vortex_model_table.specs.ZoneMap.{ZoneMap, bound_of}
use Rattle.vortex_scalar_value.specs.View.{raw_of}
use Rattle.vortex_scalar_value.specs.declared.scalar_value.ScalarValue.{ScalarValue}
use Rattle.vortex_stats_bound.specs.Precision.{precision_of, precision_map}
use Rattle.vortex_stats_bound.specs.Typed.{is_precision_of}
use Rattle.vortex_stats_bound.specs.ValueOrder.{value_content}
use Rattle.vortex_stats_bound.specs.declared.precision.Precision as known
use Rattle.vortex_stats_array.specs.Sums.{known_sum, IsSumIn}
use Rattle.vortex_stats_array.specs.declared.array_stats.ArrayStats.{ArrayStats}

-- the content of a bound, with the same precision
abbrev pub bound_content : known.Precision ScalarValue → Precision Content
bound_content p = precision_map value_content (precision_of p)

-- the bound, if there is one, is a value of the type
abbrev pub IsBoundIn : LogicalType → known.Precision ScalarValue → Type 0
IsBoundIn k p = is_precision_of k (precision_map raw_of (precision_of p)) ≡ true

-- both bounds are values of the type, if there are any
abbrev pub HasBoundsIn : LogicalType → ArrayStats → Type 0
HasBoundsIn k s = IsBoundIn k s.min × IsBoundIn k s.max

-- the bounds are values of the type, and the sum has the type of its sums
pub record AreOfType (k : LogicalType) (s : ArrayStats) : Type 0 where
  pub bounds : HasBoundsIn k s
  pub sum : IsSumIn k s.sum

-- the constancy, where it is known
abbrev pub known_constancy : Option Bool → Precision Bool
known_constancy None = absent
known_constancy (Some b) = exact b

-- the zone map of the statistics
abbrev pub zone_in : ArrayStats → ZoneMap
zone_in s = record {
  low = bound_content s.min;
  high = bound_content s.max;
  nulls = s.null_count;
  rows = s.row_count;
  total = known_sum s.sum;
  constant = known_constancy s.is_constant;
}

-- the bounds of a least and of a greatest value
abbrev pub low_at : ℕ → Option Content → Precision Content
low_at L None = absent
low_at L (Some v) = bound_of (is_longer L v) (low L v)

abbrev pub high_by : ℕ → Content → Option Content → Precision Content
high_by L v None = absent
high_by L v (Some h) = bound_of (is_longer L v) h

abbrev pub high_at : ℕ → Option Content → Precision Content
high_at L None = absent
high_at L (Some v) = high_by L v (high L v)
