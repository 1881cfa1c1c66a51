-- Columns of zone maps in bound expressions, and what they answer for statistics.
use Rattle.std.specs.Prelude.{ℕ, pos, List, [], Option, Some, None}
use Rattle.std.specs.List.{position}
use Rattle.vortex_model.specs.LogicalType.{LogicalType, integer_type, u64, nullable, non_nullable, with_nullability}
use Rattle.vortex_model.specs.Content.{integer}
use Rattle.vortex_model.specs.Path.{Positions, eq_positions}
use Rattle.vortex_model_table.specs.Expression.{Aggregate, min, max, null_count, all_null, all_non_null, equal}
use Rattle.vortex_stats_bind.specs.Bound.{Bound, fixed, place, test}
use Rattle.vortex_stats_bind.specs.Replaced.{answered, replaced, typed_null}
use Rattle.vortex_table_zonemaps.specs.Zone.{positions_of}
use Rattle.vortex_table_zonemaps.specs.declared.place.ZoneStat.{ZoneStat}
use Rattle.vortex_table_zonemaps.specs.declared.place.ZoneStat.TheVariants as stat

-- a column, of this type
abbrev pub zone_column : LogicalType → ZoneStat → Bound
zone_column k s = place [] (positions_of s) k

abbrev pub null_counts : ℕ → Bound
null_counts j = zone_column (integer_type u64 non_nullable) (stat.NullCount j)

abbrev pub row_counts : Bound
row_counts = zone_column (integer_type u64 non_nullable) stat.Rows

abbrev pub no_rows : Bound
no_rows = fixed (integer_type u64 non_nullable) (integer (pos 0))

-- the answer of zone maps for a statistic of the values, of this type, of the leaf at an index
abbrev pub leaf_answer : ℕ → LogicalType → Aggregate → Option Bound
leaf_answer j k min = Some (zone_column (with_nullability nullable k) (stat.Low j))
leaf_answer j k max = Some (zone_column (with_nullability nullable k) (stat.High j))
leaf_answer j k null_count = Some (null_counts j)
leaf_answer j k all_null = Some (test equal (null_counts j) row_counts)
leaf_answer j k all_non_null = Some (test equal (null_counts j) no_rows)
leaf_answer j k a = None

abbrev pub answer_of : Option ℕ → LogicalType → Aggregate → Option Bound
answer_of None k a = None
answer_of (Some j) k a = leaf_answer j k a

-- what the columns of these leaves have for a statistic of the values of an expression
abbrev pub zone_answers : List Positions → Bound → Aggregate → Option Bound
zone_answers leaves (place xs is k) a =
    answer_of (position (λ leaf. eq_positions leaf is) leaves) k a
zone_answers leaves b a = None

-- the proof with their columns for its placeholders and for the number of rows
abbrev pub bound_to : List Positions → Bound → Bound
bound_to leaves proof = replaced (answered (Some row_counts) (zone_answers leaves) typed_null) proof
