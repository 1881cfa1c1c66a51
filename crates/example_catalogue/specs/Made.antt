-- Sets of statistics that are made of others, whatever the order in which these were merged.
use Rattle.std.specs.Prelude.{◌≡◌, ℕ, pos, List, [], ◌∷◌, map, All, Option, Some, None, true}
use Rattle.std.specs.Ordering.{flip_args}
use Rattle.vortex_model.specs.LogicalType.{LogicalType, u64}
use Rattle.vortex_model.specs.Content.{Content, raw_number}
use Rattle.vortex_model.specs.Order.{content_cmp}
use Rattle.vortex_model_table.specs.Statistics.{Precision, exact}
use Rattle.vortex_stats_expr.specs.declared.stat.Stat.{Stat}
use Rattle.vortex_stats_expr.specs.declared.stat.Stat.TheVariants as stat
use Rattle.vortex_stats_set.specs.Pairs.{Pairs, known}
use Rattle.vortex_stats_set.specs.Merge.{merged_unordered}
use Rattle.vortex_stats_set.specs.Said.{statistics_in}
use Rattle.vortex_stats_set.specs.Valid.{is_known_of}
use Rattle.example_catalogue.specs.Bounds.{IsFirst, total, counted}

abbrev pub least_in : Pairs → Precision Content
least_in xs = (statistics_in xs).least

abbrev pub greatest_in : Pairs → Precision Content
greatest_in xs = (statistics_in xs).greatest

abbrev pub nulls_in : Pairs → Precision ℕ
nulls_in xs = (statistics_in xs).nulls

-- each statistic of the set has its type for a column of this type
abbrev pub IsTyped : LogicalType → Pairs → Type 0
IsTyped k xs = (s : Stat) → is_known_of k s (known xs s) ≡ true

-- The least value, the greatest and the null count of the set are those of the sets together.
pub record IsMadeOf (k : LogicalType) (xs : Pairs) (sets : List Pairs) : Type 0 where
  pub typed : All (IsTyped k) sets
  pub least : IsFirst content_cmp (map least_in sets) (least_in xs)
  pub greatest : IsFirst (flip_args content_cmp) (map greatest_in sets) (greatest_in xs)
  pub nulls : known xs stat.NullCount ≡ counted (total (map nulls_in sets))

-- the statistics of no rows: that none of them is null
abbrev pub no_rows : Pairs
no_rows = (stat.NullCount, exact (raw_number u64 (pos 0))) ∷ []

-- the set is made of these, if there are any
abbrev pub IsAnswerOf : LogicalType → Pairs → List Pairs → Type 0
IsAnswerOf k xs [] = xs ≡ no_rows
IsAnswerOf k xs (s ∷ sets) = IsMadeOf k xs (s ∷ sets)

-- the merge of the sets in order, and none of no sets
abbrev pub one_more : Option Pairs → Pairs → Pairs
one_more None xs = xs
one_more (Some ys) xs = merged_unordered true ys xs

abbrev pub gathered : Option Pairs → List Pairs → Option Pairs
gathered m [] = m
gathered m (xs ∷ more) = gathered (Some (one_more m xs)) more

abbrev pub answered : Option Pairs → Pairs
answered None = no_rows
answered (Some xs) = xs

abbrev pub answer : List Pairs → Pairs
answer sets = answered (gathered None sets)

-- both are there, and the set is their merge
abbrev pub AreMerged : Option Pairs → Option Pairs → Pairs → Type 0
AreMerged (Some xs) (Some ys) zs = zs ≡ merged_unordered true xs ys
AreMerged m n zs = ⊥

-- both have the same least value, greatest value and null count
pub record AreAlike (xs ys : Pairs) : Type 0 where
  pub least : least_in xs ≡ least_in ys
  pub greatest : greatest_in xs ≡ greatest_in ys
  pub nulls : nulls_in xs ≡ nulls_in ys
