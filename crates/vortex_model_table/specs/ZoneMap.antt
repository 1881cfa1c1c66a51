-- Zone maps of the leaf columns of chunks and of groups.
use Rattle.std.specs.Prelude.{◌≡◌, ℕ, ℤ, pos, ◌+ℤ◌, List, [], ◌∷◌, ◌++◌, length, map, sum, filter_map, Option, Some, None, Bool, true, false, not, ◌||◌, if◌then◌else◌, ◌⊎◌, nat_le}
use Rattle.std.specs.List.{list_all, list_any}
use Rattle.vortex_model.specs.LogicalType.{LogicalType, IntKind}
use Rattle.vortex_model.specs.Content.{Content, equal_content}
use Rattle.vortex_model.specs.Valid.{in_range}
use Rattle.vortex_model.specs.Path.{Positions, at}
use Rattle.vortex_model_table.specs.Bounds.{low, high, is_longer}
use Rattle.vortex_model_table.specs.Typing.{sum_kind}
use Rattle.vortex_model_table.specs.Statistics.{Precision, exact, inexact, absent, Statistics, non_null, null_count_of, least_value, greatest_value, sum_of, is_constant}

-- Of a column over some rows: a bound below and one above its values, the number of nulls and of
-- rows, the sum, and whether all values are equal.
pub record ZoneMap : Type 0 where
  pub low : Precision Content
  pub high : Precision Content
  pub nulls : ℕ
  pub rows : ℕ
  pub total : Precision ℤ
  pub constant : Precision Bool

-- the values of a leaf column
abbrev pub values_at : Positions → List Content → List Content
values_at is rows = map (λ row. at row is) rows

-- a bound is exact where it wasn't shortened
abbrev pub bound_of : Bool → Content → Precision Content
bound_of shortened b = if shortened then inexact b else exact b

-- the low of the least value, and the high of the greatest
abbrev pub low_of_values : ℕ → List Content → Precision Content
low_of_values L cs =
    elim (least_value (non_null cs)) [ None ↦ absent | Some v ↦ bound_of (is_longer L v) (low L v) ]

abbrev pub high_of_values : ℕ → List Content → Precision Content
high_of_values L cs = elim (greatest_value (non_null cs)) [
  | None ↦ absent
  | Some v ↦ (elim (high L v) [ None ↦ absent | Some h ↦ bound_of (is_longer L v) h ])
]

-- the sum, where the integer type holds it
abbrev pub sum_in : Option IntKind → ℤ → Precision ℤ
sum_in None z = absent
sum_in (Some i) z = if in_range i z then exact z else absent

-- the zone map of a column of this type, with bounds of at most L bytes
abbrev pub zone_of : LogicalType → ℕ → List Content → ZoneMap
zone_of k L cs = record {
  low = low_of_values L cs;
  high = high_of_values L cs;
  nulls = null_count_of cs;
  rows = length cs;
  total = sum_in (sum_kind k) (sum_of cs);
  constant = exact (is_constant cs);
}

-- ---- groups

abbrev pub is_absent : Precision Content → Bool
is_absent (exact v) = false
is_absent (inexact v) = false
is_absent absent = true

-- the bound, exact or not
abbrev pub value_in : Precision Content → Option Content
value_in (exact v) = Some v
value_in (inexact v) = Some v
value_in absent = None

-- the bound is exact, and is this value
abbrev pub is_exactly : Content → Precision Content → Bool
is_exactly v (exact b) = equal_content b v
is_exactly v (inexact b) = false
is_exactly v absent = false

-- The bound that is picked from those of the chunks, if each chunk has one: exact where some chunk
-- has this bound exactly.
abbrev pub bound_among : (List Content → Option Content) → List (Precision Content) →
    Precision Content
bound_among pick bounds = if list_any is_absent bounds then absent
    else (elim (pick (filter_map value_in bounds)) [
      | None ↦ absent
      | Some v ↦ bound_of (not (list_any (is_exactly v) bounds)) v
    ])

-- bounds and counts of a group
abbrev pub group_low : List ZoneMap → Precision Content
group_low zones = bound_among least_value (map (λ z. z.low) zones)

abbrev pub group_high : List ZoneMap → Precision Content
group_high zones = bound_among greatest_value (map (λ z. z.high) zones)

abbrev pub group_nulls : List ZoneMap → ℕ
group_nulls zones = sum (map (λ z. z.nulls) zones)

abbrev pub group_rows : List ZoneMap → ℕ
group_rows zones = sum (map (λ z. z.rows) zones)

-- What a scan uses of a group, which doesn't depend on the joins that made it. Its sum and
-- constancy, which a scan doesn't use, are absent.
abbrev pub group_bounds : List ZoneMap → ZoneMap
group_bounds zones = record {
  low = group_low zones;
  high = group_high zones;
  nulls = group_nulls zones;
  rows = group_rows zones;
  total = absent;
  constant = absent;
}

-- ---- a group's sum and constancy, which may depend on the joins that made it

-- the sum of sums
abbrev pub total_of : List ℤ → ℤ
total_of [] = pos 0
total_of (z ∷ zs) = z +ℤ total_of zs

-- the sum of each run of neighbours fits the integer type
abbrev pub EachRunFits : IntKind → List ℤ → Type 0
EachRunFits i sums =
    (before run after : List ℤ) → sums ≡ before ++ run ++ after → in_range i (total_of run) ≡ true

-- The total is the sum or is absent; it is known where the sum of each run of chunks fits.
pub record IsGroupTotal (k : LogicalType) (sums : List ℤ) (total : Precision ℤ) : Type 0 where
  pub honest : (total ≡ absent) ⊎ (total ≡ sum_in (sum_kind k) (total_of sums))
  pub exact_where_each_run_fits : (i : IntKind) → sum_kind k ≡ Some i → EachRunFits i sums →
      total ≡ exact (total_of sums)

abbrev pub is_known_constant : ZoneMap → Bool
is_known_constant z = elim z.constant [ exact b ↦ b | inexact b ↦ false | absent ↦ false ]

abbrev pub has_exact_low : ZoneMap → Bool
has_exact_low z = elim z.low [ exact v ↦ true | inexact v ↦ false | absent ↦ false ]

-- There is one chunk, or some chunk isn't constant, or each is and has an exact low.
abbrev pub constancy_shows : List ZoneMap → Bool
constancy_shows zones = nat_le (length zones) 1 || not (list_all is_known_constant zones) ||
    list_all has_exact_low zones

-- The constancy is right or is absent; it is known where the chunks' zone maps show it.
pub record IsGroupConstancy (cs : List Content) (zones : List ZoneMap)
    (constant : Precision Bool) : Type 0 where
  pub honest : (constant ≡ absent) ⊎ (constant ≡ exact (is_constant cs))
  pub exact_where_the_chunks_show_it : constancy_shows zones ≡ true →
      constant ≡ exact (is_constant cs)

-- ---- joins

-- the sum of two totals, where both are known and it fits
abbrev pub joined_total : Option IntKind → Precision ℤ → Precision ℤ → Precision ℤ
joined_total (Some i) (exact a) (exact b) = sum_in (Some i) (a +ℤ b)
joined_total i a b = absent

-- false where a side is exactly false; where both are exactly true with exact lows, whether these
-- are equal
abbrev pub joined_constant : Precision Bool → Precision Bool → Precision Content →
    Precision Content → Precision Bool
joined_constant (exact false) b v w = exact false
joined_constant a (exact false) v w = exact false
joined_constant (exact true) (exact true) (exact v) (exact w) = exact (equal_content v w)
joined_constant a b v w = absent

-- the zone map of two neighbouring groups as one
abbrev pub joined : LogicalType → ZoneMap → ZoneMap → ZoneMap
joined k a b = record {
  low = group_low (a ∷ b ∷ []);
  high = group_high (a ∷ b ∷ []);
  nulls = group_nulls (a ∷ b ∷ []);
  rows = group_rows (a ∷ b ∷ []);
  total = joined_total (sum_kind k) a.total b.total;
  constant = joined_constant a.constant b.constant a.low b.low;
}

-- zone maps of neighbours, joined two by two in some order
pub data Joins : Type 0 where
  alone : ZoneMap → Joins
  together : Joins → Joins → Joins

-- the zone maps, from left to right
abbrev pub all_joined : Joins → List ZoneMap
all_joined (alone z) = z ∷ []
all_joined (together x y) = all_joined x ++ all_joined y

-- the zone map that the joins make
abbrev pub made_by : LogicalType → Joins → ZoneMap
made_by k (alone z) = z
made_by k (together x y) = joined k (made_by k x) (made_by k y)

-- a group joined with those after it, one by one
abbrev pub joined_from : LogicalType → ZoneMap → List ZoneMap → ZoneMap
joined_from k z [] = z
joined_from k z (y ∷ ys) = joined_from k (joined k z y) ys

-- the zone map of a group by joins from the left; a group is never empty
abbrev pub zone_of_group : LogicalType → List ZoneMap → ZoneMap
zone_of_group k [] = zone_of k 0 []
zone_of_group k (z ∷ zs) = joined_from k z zs

-- ---- as statistics

-- the statistics of a zone map: its null count is exact, and sortedness and size are not known
abbrev pub statistics_of : ZoneMap → Statistics
statistics_of z = record {
  least = z.low;
  greatest = z.high;
  total = z.total;
  nulls = exact z.nulls;
  nans = absent;
  bytes = absent;
  constant = z.constant;
  sorted = absent;
  strictly_sorted = absent;
}
