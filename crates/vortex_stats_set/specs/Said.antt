-- A set of statistics as statements about rows.
use Rattle.std.specs.Prelude.{ℕ, ℤ, pos, Bool}
use Rattle.vortex_model.specs.Content.{Raw, raw_boolean, raw_number, content_of}
use Rattle.vortex_model_table.specs.Statistics.{Precision, exact, inexact, absent, Statistics}
use Rattle.vortex_stats_bound.specs.Precision.{precision_map}
use Rattle.vortex_stats_expr.specs.declared.stat.Stat.TheVariants as stat
use Rattle.vortex_stats_set.specs.Pairs.{Pairs, known}

-- A raw value as a number, a count or a boolean; one of another form is absent.

abbrev pub said_number : Precision Raw → Precision ℤ
said_number (exact (raw_number i z)) = exact z
said_number (inexact (raw_number i z)) = inexact z
said_number p = absent

abbrev pub said_count : Precision Raw → Precision ℕ
said_count (exact (raw_number i (pos n))) = exact n
said_count (inexact (raw_number i (pos n))) = inexact n
said_count p = absent

abbrev pub said_truth : Precision Raw → Precision Bool
said_truth (exact (raw_boolean b)) = exact b
said_truth (inexact (raw_boolean b)) = inexact b
said_truth p = absent

abbrev pub statistics_in : Pairs → Statistics
statistics_in xs = record {
  least = precision_map content_of (known xs stat.Min);
  greatest = precision_map content_of (known xs stat.Max);
  total = said_number (known xs stat.Sum);
  nulls = said_count (known xs stat.NullCount);
  nans = said_count (known xs stat.NaNCount);
  bytes = said_count (known xs stat.UncompressedSizeInBytes);
  constant = said_truth (known xs stat.IsConstant);
  sorted = said_truth (known xs stat.IsSorted);
  strictly_sorted = said_truth (known xs stat.IsStrictSorted);
}
