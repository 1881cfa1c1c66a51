-- Statistics of a list of values, and when they are honest.
use Rattle.std.specs.Prelude.{◌≡◌, ℕ, ℤ, pos, ◌+ℤ◌, ◌≤◌, List, [], ◌∷◌, filter, find, count_by, Contains, Option, Bool, true, false, not, ◌&&◌, if◌then◌else◌, nat_lt, ◌==◌}
use Rattle.std.specs.List.{AllByRecursion, list_all}
use Rattle.std.specs.Ordering.{is_lt, is_le}
use Rattle.vortex_model.specs.Content.{Content, null, boolean, integer, is_null, equal_content}
use Rattle.vortex_model.specs.Order.{content_cmp, is_known}
use Rattle.vortex_model_table.specs.Expression.{Aggregate, min, max, sum, null_count, nan_count, size, min_max, all_null, all_non_null, all_nan, all_non_nan}

-- A statistic is known exactly, is known as a bound or an estimate, or is not known.
pub data Precision (A : Type 0) : Type 0 where
  exact : A → Precision A
  inexact : A → Precision A
  absent : Precision A

-- What may be known about a list of values: the least and the greatest, the sum, the counts of
-- nulls and NaNs, the size in bytes, whether all are one value, and whether they are sorted, and
-- strictly.
pub record Statistics : Type 0 where
  pub least : Precision Content
  pub greatest : Precision Content
  pub total : Precision ℤ
  pub nulls : Precision ℕ
  pub nans : Precision ℕ
  pub bytes : Precision ℕ
  pub constant : Precision Bool
  pub sorted : Precision Bool
  pub strictly_sorted : Precision Bool

-- ---- the statistics of a list

-- the values that aren't null, and the number of those that are
abbrev pub non_null : List Content → List Content
non_null cs = filter (λ c. not (is_null c)) cs

abbrev pub null_count_of : List Content → ℕ
null_count_of cs = count_by is_null cs

-- c compares with d and is at most it, or is below it. Values that don't compare pass neither test.
abbrev pub is_at_most : Content → Content → Bool
is_at_most c d = is_known is_le (content_cmp c d)

abbrev pub is_below : Content → Content → Bool
is_below c d = is_known is_lt (content_cmp c d)

-- The value that is at most each of the list, and the one that each is at most. An empty list has
-- none, and neither has one with no value that compares so with all.
abbrev pub least_value : List Content → Option Content
least_value cs = find (λ v. list_all (is_at_most v) cs) cs

abbrev pub greatest_value : List Content → Option Content
greatest_value cs = find (λ v. list_all (λ c. is_at_most c v) cs) cs

-- a boolean counts 1 where it is true
abbrev pub number_in : Content → ℤ
number_in (integer z) = z
number_in (boolean true) = pos 1
number_in c = pos 0

-- the sum, in which nulls and values that are no numbers count 0
abbrev pub sum_of : List Content → ℤ
sum_of [] = pos 0
sum_of (c ∷ cs) = number_in c +ℤ sum_of cs

-- all values are equal, or all are null
abbrev pub is_constant : List Content → Bool
is_constant [] = true
is_constant (c ∷ cs) = list_all (equal_content c) cs

-- each item passes with the next
abbrev pub in_turn : (Content → Content → Bool) → List Content → Bool
in_turn p [] = true
in_turn p (c ∷ []) = true
in_turn p (c ∷ d ∷ cs) = p c d && in_turn p (d ∷ cs)

-- the non-null values are sorted, or strictly sorted
abbrev pub is_sorted : List Content → Bool
is_sorted cs = in_turn is_at_most (non_null cs)

abbrev pub is_strictly_sorted : List Content → Bool
is_strictly_sorted cs = in_turn is_below (non_null cs)

-- ---- honesty

-- c compares with d and is not above it
abbrev pub IsNotAbove : Content → Content → Type 0
IsNotAbove c d = is_at_most c d ≡ true

-- v is one of the values and compares with each: none is below it, or none is above it
pub record IsLeast (v : Content) (cs : List Content) : Type 0 where
  pub among : Contains cs v
  pub least : AllByRecursion (IsNotAbove v) cs

pub record IsGreatest (v : Content) (cs : List Content) : Type 0 where
  pub among : Contains cs v
  pub greatest : AllByRecursion (λ c. IsNotAbove c v) cs

-- An exact bound is the least value, and an inexact one is not above any.
abbrev pub IsHonestLeast : Precision Content → List Content → Type 0
IsHonestLeast (exact v) cs = IsLeast v (non_null cs)
IsHonestLeast (inexact v) cs = AllByRecursion (IsNotAbove v) (non_null cs)
IsHonestLeast absent cs = Unit {0}

abbrev pub IsHonestGreatest : Precision Content → List Content → Type 0
IsHonestGreatest (exact v) cs = IsGreatest v (non_null cs)
IsHonestGreatest (inexact v) cs = AllByRecursion (λ c. IsNotAbove c v) (non_null cs)
IsHonestGreatest absent cs = Unit {0}

-- an inexact count is an upper bound
abbrev pub IsHonestCount : Precision ℕ → ℕ → Type 0
IsHonestCount (exact n) count = n ≡ count
IsHonestCount (inexact n) count = count ≤ n
IsHonestCount absent count = Unit {0}

-- an inexact value states nothing
abbrev pub IsHonestValue : {A : Type 0} → Precision A → A → Type 0
IsHonestValue (exact v) value = v ≡ value
IsHonestValue (inexact v) value = Unit {0}
IsHonestValue absent value = Unit {0}

-- the statistics are true of these values, none of which is a float
pub record IsHonest (s : Statistics) (cs : List Content) : Type 0 where
  pub least : IsHonestLeast s.least cs
  pub greatest : IsHonestGreatest s.greatest cs
  pub total : IsHonestValue s.total (sum_of cs)
  pub nulls : IsHonestCount s.nulls (null_count_of cs)
  pub nans : IsHonestValue s.nans 0
  pub constant : IsHonestValue s.constant (is_constant cs)
  pub sorted : IsHonestValue s.sorted (is_sorted cs)
  pub strictly_sorted : IsHonestValue s.strictly_sorted (is_strictly_sorted cs)

-- ---- values of placeholders

-- the value, exact or not, and null where it is absent
abbrev pub shown : Precision Content → Content
shown (exact v) = v
shown (inexact v) = v
shown absent = null

abbrev pub shown_number : Precision ℤ → Content
shown_number (exact z) = integer z
shown_number (inexact z) = integer z
shown_number absent = null

-- a count, and null where it is inexact and not 0
abbrev pub shown_count : Precision ℕ → Content
shown_count (exact n) = integer (pos n)
shown_count (inexact n) = if n == 0 then integer (pos 0) else null
shown_count absent = null

-- whether all rows are counted, and null where the count doesn't show it
abbrev pub all_counted : ℕ → Precision ℕ → Content
all_counted rows (exact n) = boolean (n == rows)
all_counted rows (inexact n) = if nat_lt n rows then boolean false else null
all_counted rows absent = null

-- whether no row is counted, and null where the count doesn't show it
abbrev pub none_counted : Precision ℕ → Content
none_counted (exact n) = boolean (n == 0)
none_counted (inexact n) = if n == 0 then boolean true else null
none_counted absent = null

abbrev pub shown_size : Precision ℕ → Content
shown_size (exact n) = integer (pos n)
shown_size (inexact n) = integer (pos n)
shown_size absent = null

-- the value of a placeholder by the statistics of this many rows
abbrev pub placeholder_value : Aggregate → Statistics → ℕ → Content
placeholder_value min s rows = shown s.least
placeholder_value max s rows = shown s.greatest
placeholder_value sum s rows = shown_number s.total
placeholder_value null_count s rows = shown_count s.nulls
placeholder_value nan_count s rows = shown_count s.nans
placeholder_value size s rows = shown_size s.bytes
placeholder_value min_max s rows = null
placeholder_value all_null s rows = all_counted rows s.nulls
placeholder_value all_non_null s rows = none_counted s.nulls
placeholder_value all_nan s rows = all_counted rows s.nans
placeholder_value all_non_nan s rows = none_counted s.nans
