-- Merged statistics of two columns, whose rows are put end to end or mixed. `one` is whether the
-- two columns have one type, up to nullability: otherwise their values don't compare.
use Rattle.std.specs.Prelude.{ℤ, ◌+ℤ◌, List, [], ◌∷◌, Bool, true, false, ◌&&◌, if◌then◌else◌, Option, Some, None, option_map, option_and_then}
use Rattle.std.specs.declared.cmp.Ordering.{Ordering}
use Rattle.std.specs.Ordering.{is_lt, is_le}
use Rattle.vortex_model.specs.LogicalType.{IntKind, u64, i64}
use Rattle.vortex_model.specs.Content.{Raw, raw_boolean, raw_number, content_of}
use Rattle.vortex_model.specs.Order.{content_cmp, is_known}
use Rattle.vortex_model.specs.Valid.{in_range}
use Rattle.vortex_model_table.specs.Statistics.{Precision, exact, inexact, absent}
use Rattle.vortex_scalar_value.specs.Parts.{boolean_in}
use Rattle.vortex_scalar_ops.specs.Equality.{eq_content}
use Rattle.vortex_stats_bound.specs.Order.{Comparison}
use Rattle.vortex_stats_bound.specs.Precision.{exact_value, known_value}
use Rattle.vortex_stats_bound.specs.Bounds.{union_lower, union_upper}
use Rattle.vortex_stats_expr.specs.declared.stat.Stat.{Stat}
use Rattle.vortex_stats_expr.specs.declared.stat.Stat.TheVariants as stat
use Rattle.vortex_stats_expr.specs.Stats.{all_stats, is_commutative}
use Rattle.vortex_stats_set.specs.Pairs.{Pairs, known, put}

-- the order of two values of one type
abbrev pub raw_order : Comparison Raw
raw_order a b = content_cmp (content_of a) (content_of b)

-- ---- each statistic, by its precision on either side; None where it becomes unknown

-- the lesser minimum: exact if an exact side has it
abbrev pub merged_min : Bool → Precision Raw → Precision Raw → Option (Precision Raw)
merged_min one p q = if one then union_lower raw_order p q else None

-- the greater maximum: exact if an exact side has it
abbrev pub merged_max : Bool → Precision Raw → Precision Raw → Option (Precision Raw)
merged_max one p q = if one then union_upper raw_order p q else None

-- the integer, if it fits in the type
abbrev pub within : IntKind → ℤ → Option Raw
within i z = if in_range i z then Some (raw_number i z) else None

-- The sum of two integers of one type, if it fits in the type. Counts and sums have these types.
abbrev pub added : Raw → Raw → Option Raw
added (raw_number u64 x) (raw_number u64 y) = within u64 (x +ℤ y)
added (raw_number i64 x) (raw_number i64 y) = within i64 (x +ℤ y)
added a b = None

-- the sum of two counts: exact if both are
abbrev pub merged_count : Precision Raw → Precision Raw → Option (Precision Raw)
merged_count absent q = None
merged_count p absent = None
merged_count (exact a) (exact b) = option_map (λ r. exact r) (added a b)
merged_count (exact a) (inexact b) = option_map (λ r. inexact r) (added a b)
merged_count (inexact a) (exact b) = option_map (λ r. inexact r) (added a b)
merged_count (inexact a) (inexact b) = option_map (λ r. inexact r) (added a b)

-- the sum of two sums that are exact
abbrev pub merged_sum : Precision Raw → Precision Raw → Option (Precision Raw)
merged_sum (exact a) (exact b) = option_map (λ r. exact r) (added a b)
merged_sum p q = None

-- the boolean, where it is known exactly
abbrev pub exact_flag : Precision Raw → Option Bool
exact_flag p = option_and_then boolean_in (exact_value p)

-- the boolean as an exact one
abbrev pub known_flag : Bool → Precision Raw
known_flag b = exact (raw_boolean b)

-- whether the two least values are equal, if there are both
abbrev pub are_equal : Bool → Option Raw → Option Raw → Option Bool
are_equal one (Some a) (Some b) = Some (one && eq_content (content_of a) (content_of b))
are_equal one m n = None

-- Not constant where a side is not. Two constant sides are constant where their minimums are equal.
abbrev pub constant_flag : Option Bool → Option Bool → Option Bool → Option Bool
constant_flag (Some false) g equal = Some false
constant_flag f (Some false) equal = Some false
constant_flag (Some true) (Some true) equal = equal
constant_flag f g equal = None

abbrev pub merged_constant : Bool → Pairs → Pairs → Option (Precision Raw)
merged_constant one xs ys = option_map known_flag
    (constant_flag (exact_flag (known xs stat.IsConstant)) (exact_flag (known ys stat.IsConstant))
    (are_equal one (exact_value (known xs stat.Min)) (exact_value (known ys stat.Min))))

-- A value may come before the next where it is not above it or, strictly, where it is below it.
abbrev pub stands_before : Stat → Ordering → Bool
stands_before stat.IsStrictSorted o = is_lt o
stands_before s o = is_le o

-- sorted where the first maximum may come before the second minimum, and else maybe not
abbrev pub sorted_if : Bool → Precision Raw
sorted_if b = if b then exact (raw_boolean true) else inexact (raw_boolean false)

abbrev pub sorted_across : Stat → Bool → Option Raw → Option Raw → Option (Precision Raw)
sorted_across s one (Some a) (Some b) =
    Some (sorted_if (one && is_known (stands_before s) (raw_order a b)))
sorted_across s one m n = None

-- Two sorted sides are sorted where their bounds are.
abbrev pub both_sorted : Option Bool → Option Bool → Option (Precision Raw) → Option (Precision Raw)
both_sorted (Some true) (Some true) across = across
both_sorted f g across = None

abbrev pub merged_sorted : Stat → Bool → Pairs → Pairs → Option (Precision Raw)
merged_sorted s one xs ys =
    both_sorted (exact_flag (known xs s)) (exact_flag (known ys s))
    (sorted_across s one (known_value (known xs stat.Max)) (known_value (known ys stat.Min)))

-- ---- all statistics

abbrev pub merged : Bool → Stat → Pairs → Pairs → Option (Precision Raw)
merged one stat.IsConstant xs ys = merged_constant one xs ys
merged one stat.IsSorted xs ys = merged_sorted stat.IsSorted one xs ys
merged one stat.IsStrictSorted xs ys = merged_sorted stat.IsStrictSorted one xs ys
merged one stat.Max xs ys = merged_max one (known xs stat.Max) (known ys stat.Max)
merged one stat.Min xs ys = merged_min one (known xs stat.Min) (known ys stat.Min)
merged one stat.Sum xs ys = merged_sum (known xs stat.Sum) (known ys stat.Sum)
merged one stat.NullCount xs ys = merged_count (known xs stat.NullCount) (known ys stat.NullCount)
merged one stat.UncompressedSizeInBytes xs ys =
    merged_count (known xs stat.UncompressedSizeInBytes) (known ys stat.UncompressedSizeInBytes)
merged one stat.NaNCount xs ys = merged_count (known xs stat.NaNCount) (known ys stat.NaNCount)

-- Statistics that depend on the order of rows are unknown for rows in any order.
abbrev pub merged_if : Bool → Bool → Stat → Pairs → Pairs → Option (Precision Raw)
merged_if true one s xs ys = merged one s xs ys
merged_if false one s xs ys = if is_commutative s then merged one s xs ys else None

-- the statistics one after another, each from the list so far
abbrev pub merged_in_turn : Bool → Bool → List Stat → Pairs → Pairs → Pairs
merged_in_turn ordered one [] xs ys = xs
merged_in_turn ordered one (s ∷ ss) xs ys =
    merged_in_turn ordered one ss (put xs s (merged_if ordered one s xs ys)) ys

-- In the order of numbers, so that constancy and sortedness are found before the bounds are merged.
abbrev pub merged_ordered : Bool → Pairs → Pairs → Pairs
merged_ordered one xs ys = merged_in_turn true one all_stats xs ys

abbrev pub merged_unordered : Bool → Pairs → Pairs → Pairs
merged_unordered one xs ys = merged_in_turn false one all_stats xs ys
