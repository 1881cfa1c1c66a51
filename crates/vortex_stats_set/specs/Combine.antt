-- Combined sets of statistics of the same rows. `one` is whether the two have one type, up to
-- nullability: otherwise their values don't compare.
use Rattle.std.specs.Prelude.{◌≡◌, [], ◌∷◌, Bool, true, false, if◌then◌else◌, Option, Some, None, option_map, option_and_then}
use Rattle.std.specs.Option.{option_map_or}
use Rattle.vortex_model.specs.Content.{Raw}
use Rattle.vortex_model_table.specs.Statistics.{Precision, absent}
use Rattle.vortex_stats_bound.specs.Bounds.{Intersection, intersection_lower, intersection_upper, intersection_plain, common_value}
use Rattle.vortex_stats_expr.specs.declared.stat.Stat.{Stat}
use Rattle.vortex_stats_expr.specs.declared.stat.Stat.TheVariants as stat
use Rattle.vortex_stats_set.specs.Pairs.{Pairs, known, put}
use Rattle.vortex_stats_set.specs.Merge.{raw_order}

-- A minimum is a lower bound; a maximum, a count and a size are upper bounds; a sum and a boolean
-- are neither.
abbrev pub intersection_of : Stat → Bool → Intersection Raw
intersection_of stat.IsConstant one p q = intersection_plain raw_order p q
intersection_of stat.IsSorted one p q = intersection_plain raw_order p q
intersection_of stat.IsStrictSorted one p q = intersection_plain raw_order p q
intersection_of stat.Max one p q = if one then intersection_upper raw_order p q else None
intersection_of stat.Min one p q = if one then intersection_lower raw_order p q else None
intersection_of stat.Sum one p q = if one then intersection_plain raw_order p q else None
intersection_of stat.NullCount one p q = intersection_upper raw_order p q
intersection_of stat.UncompressedSizeInBytes one p q = intersection_upper raw_order p q
intersection_of stat.NaNCount one p q = intersection_upper raw_order p q

-- what both values allow, and None where they exclude each other or don't compare
abbrev pub common : Stat → Bool → Precision Raw → Precision Raw → Option (Precision Raw)
common s one p q = option_and_then common_value (intersection_of s one p q)

-- A combined statistic: None where it is refused, `Some None` where it is removed.
abbrev pub combined : Stat → Bool → Precision Raw → Precision Raw → Option (Option (Precision Raw))
combined s one absent absent = Some None
combined s one absent q = Some (Some q)
combined s one p absent = Some (Some p)
combined s one p q = option_map (λ r. Some r) (common s one p q)

-- the list after one more statistic, unless it is refused
abbrev pub after : Pairs → Stat → Option (Option (Precision Raw)) → Option Pairs
after xs s None = None
after xs s (Some p) = Some (put xs s p)

abbrev pub after_one : Bool → Pairs → Stat × Precision Raw → Option Pairs
after_one one xs e = after xs e.0 (combined e.0 one (known xs e.0) e.1)

-- The second list is that after the statistic, or the first again where it is refused.
abbrev pub IsAfterOne : Bool → Pairs → Stat × Precision Raw → Pairs → Bool → Type 0
IsAfterOne one xs e ys true = after_one one xs e ≡ Some ys
IsAfterOne one xs e ys false = (after_one one xs e ≡ None) × (ys ≡ xs)

-- The second list's statistics in order, up to the first that is refused. The boolean is whether
-- none is.
abbrev pub combined_in_turn : Bool → Pairs → Pairs → Pairs × Bool
combined_in_turn one xs [] = (xs, true)
combined_in_turn one xs (e ∷ es) =
    option_map_or (λ ys. combined_in_turn one ys es) (after_one one xs e) (xs, false)
