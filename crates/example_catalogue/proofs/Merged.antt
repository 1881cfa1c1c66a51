-- The bounds and the null count of an unordered merge.
use Rattle.std.proofs.Common.{◌≡◌, refl, ◌∙◌, ap, Option, Some, None, option_map, false, true}
use Rattle.vortex_model.specs.Content.{Raw, content_of}
use Rattle.vortex_model.specs.Order.{content_cmp}
use Rattle.vortex_model_table.specs.Statistics.{Precision}
use Rattle.vortex_stats_bound.specs.Precision.{precision_map}
use Rattle.vortex_stats_bound.specs.Bounds.{union_lower, union_upper}
use Rattle.vortex_stats_expr.specs.declared.stat.Stat.{Stat}
use Rattle.vortex_stats_expr.specs.declared.stat.Stat.TheVariants as stat
use Rattle.vortex_stats_set.specs.Pairs.{Pairs, known, put, or_nothing}
use Rattle.vortex_stats_set.specs.Merge.{raw_order, merged_if, merged_count, merged_unordered}
use Rattle.vortex_stats_set.proofs.Natural.{union_lower-seen, union_upper-seen}
use Rattle.example_catalogue.specs.Made.{least_in, greatest_in}
use Rattle.example_catalogue.proofs.Firsts.{or_absent, turned_cmp}
use Rattle.example_catalogue.proofs.Known.{known_put, known_other}

module _ (xs ys : Pairs) where
  abbrev next : Pairs → Stat → Pairs
  next zs s = put zs s (merged_if false true s zs ys)

  abbrev one : Pairs
  one = next xs stat.IsConstant

  abbrev two : Pairs
  two = next one stat.IsSorted

  abbrev three : Pairs
  three = next two stat.IsStrictSorted

  abbrev four : Pairs
  four = next three stat.Max

  abbrev five : Pairs
  five = next four stat.Min

  abbrev six : Pairs
  six = next five stat.Sum

  abbrev seven : Pairs
  seven = next six stat.NullCount

  abbrev eight : Pairs
  eight = next seven stat.UncompressedSizeInBytes

  abbrev all : Pairs
  all = merged_unordered true xs ys

  -- the first three statistics are others
  flags_max : known three stat.Max ≡ known xs stat.Max
  flags_max =
      known_other two stat.IsStrictSorted stat.Max (merged_if false true stat.IsStrictSorted two ys) refl
      ∙ known_other one stat.IsSorted stat.Max (merged_if false true stat.IsSorted one ys) refl
      ∙ known_other xs stat.IsConstant stat.Max (merged_if false true stat.IsConstant xs ys) refl

  before_min : known four stat.Min ≡ known xs stat.Min
  before_min =
      known_other three stat.Max stat.Min (merged_if false true stat.Max three ys) refl
      ∙ known_other two stat.IsStrictSorted stat.Min (merged_if false true stat.IsStrictSorted two ys) refl
      ∙ known_other one stat.IsSorted stat.Min (merged_if false true stat.IsSorted one ys) refl
      ∙ known_other xs stat.IsConstant stat.Min (merged_if false true stat.IsConstant xs ys) refl

  before_nulls : known six stat.NullCount ≡ known xs stat.NullCount
  before_nulls =
      known_other five stat.Sum stat.NullCount (merged_if false true stat.Sum five ys) refl
      ∙ known_other four stat.Min stat.NullCount (merged_if false true stat.Min four ys) refl
      ∙ known_other three stat.Max stat.NullCount (merged_if false true stat.Max three ys) refl
      ∙ known_other two stat.IsStrictSorted stat.NullCount (merged_if false true stat.IsStrictSorted two ys) refl
      ∙ known_other one stat.IsSorted stat.NullCount (merged_if false true stat.IsSorted one ys) refl
      ∙ known_other xs stat.IsConstant stat.NullCount (merged_if false true stat.IsConstant xs ys) refl

  behind_nulls : known all stat.NullCount ≡ known seven stat.NullCount
  behind_nulls =
      known_other eight stat.NaNCount stat.NullCount (merged_if false true stat.NaNCount eight ys) refl
      ∙ known_other seven stat.UncompressedSizeInBytes stat.NullCount (merged_if false true stat.UncompressedSizeInBytes seven ys) refl

  behind_min : known all stat.Min ≡ known five stat.Min
  behind_min =
      known_other eight stat.NaNCount stat.Min (merged_if false true stat.NaNCount eight ys) refl
      ∙ known_other seven stat.UncompressedSizeInBytes stat.Min (merged_if false true stat.UncompressedSizeInBytes seven ys) refl
      ∙ known_other six stat.NullCount stat.Min (merged_if false true stat.NullCount six ys) refl
      ∙ known_other five stat.Sum stat.Min (merged_if false true stat.Sum five ys) refl

  behind_max : known all stat.Max ≡ known four stat.Max
  behind_max =
      known_other eight stat.NaNCount stat.Max (merged_if false true stat.NaNCount eight ys) refl
      ∙ known_other seven stat.UncompressedSizeInBytes stat.Max (merged_if false true stat.UncompressedSizeInBytes seven ys) refl
      ∙ known_other six stat.NullCount stat.Max (merged_if false true stat.NullCount six ys) refl
      ∙ known_other five stat.Sum stat.Max (merged_if false true stat.Sum five ys) refl
      ∙ known_other four stat.Min stat.Max (merged_if false true stat.Min four ys) refl

  max_is : known all stat.Max ≡ or_nothing (union_upper raw_order (known xs stat.Max) (known ys stat.Max))
  max_is =
      behind_max ∙ known_put three stat.Max (merged_if false true stat.Max three ys)
      ∙ ap (λ p. or_nothing (union_upper raw_order p (known ys stat.Max))) flags_max

  min_is : known all stat.Min ≡ or_nothing (union_lower raw_order (known xs stat.Min) (known ys stat.Min))
  min_is =
      behind_min ∙ known_put four stat.Min (merged_if false true stat.Min four ys)
      ∙ ap (λ p. or_nothing (union_lower raw_order p (known ys stat.Min))) before_min

  pub nulls_are : known all stat.NullCount ≡ or_nothing (merged_count (known xs stat.NullCount) (known ys stat.NullCount))
  nulls_are =
      behind_nulls ∙ known_put six stat.NullCount (merged_if false true stat.NullCount six ys)
      ∙ ap (λ p. or_nothing (merged_count p (known ys stat.NullCount))) before_nulls

  as_contents : (m : Option (Precision Raw)) → precision_map content_of (or_nothing m) ≡ or_absent (option_map (precision_map content_of) m)
  as_contents None = refl
  as_contents (Some p) = refl

  pub least_is : least_in all ≡ or_absent (union_lower content_cmp (least_in xs) (least_in ys))
  least_is =
      ap (precision_map content_of) min_is
      ∙ as_contents (union_lower raw_order (known xs stat.Min) (known ys stat.Min))
      ∙ ap or_absent (union_lower-seen content_of content_cmp (known xs stat.Min) (known ys stat.Min))

  pub greatest_is : greatest_in all ≡ or_absent (union_lower turned_cmp (greatest_in xs) (greatest_in ys))
  greatest_is =
      ap (precision_map content_of) max_is
      ∙ as_contents (union_upper raw_order (known xs stat.Max) (known ys stat.Max))
      ∙ ap or_absent (union_upper-seen content_of content_cmp (known xs stat.Max) (known ys stat.Max))
