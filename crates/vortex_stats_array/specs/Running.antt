-- The least and the greatest of values, the number of nulls, and the sum.
use Rattle.std.specs.Prelude.{◌≡◌, ◌≤◌, ◌<◌, ℕ, Bool, true, ◌&&◌, ◌==◌, List, Option, Some, None, option_map, if◌then◌else◌}
use Rattle.vortex_model.specs.Content.{Content, null}
use Rattle.vortex_model_table.specs.Statistics.{is_at_most, non_null, null_count_of, least_value, greatest_value, sum_of}
use Rattle.vortex_model_table.specs.ZoneLaws.{AllCompare}
use Rattle.vortex_stats_array.specs.Sums.{sum_in_parts, FitsSum}
use Rattle.vortex_stats_array.specs.declared.running.Running.{Running}

-- the value that was read, and null where there was none
abbrev pub content_or_null : {V : Type 0} → (V → Content) → Option V → Content
content_or_null said None = null
content_or_null said (Some v) = said v

-- what is read at each of the first n rows, by the relation `reads`, is the content of the row
abbrev pub ReadsRows : {V : Type 0} → (V → Content) → ℕ → (ℕ → Option V → Type 0) →
    (ℕ → Content) → Type 0
ReadsRows {V} said n reads content =
    (i : ℕ) (v : Option V) → i < n → reads i v → content_or_null said v ≡ content i

-- the lesser and the greater of two values that compare
abbrev pub lesser : Content → Content → Content
lesser c d = if is_at_most c d then c else d

abbrev pub greater : Content → Content → Content
greater c d = if is_at_most c d then d else c

-- the one of a value and the result for those after it
abbrev pub in_front : (Content → Content → Content) → Content → Option Content → Content
in_front pick c None = c
in_front pick c (Some d) = pick c d

-- any two of the values that are not null compare, as those of a leaf column do
abbrev pub DoCompare : List Content → Type 0
DoCompare cs = AllCompare (non_null cs)

-- the statistics so far are exactly what the values cs have
pub record IsSeen {V : Type 0} (said : V → Content) (r : Running V)
    (cs : List Content) : Type 0 where
  pub least : DoCompare cs → option_map said r.least ≡ least_value (non_null cs)
  pub greatest : DoCompare cs → option_map said r.greatest ≡ greatest_value (non_null cs)
  pub nulls : r.null_count ≡ null_count_of cs
  pub total : sum_in_parts r.sum ≡ sum_of cs

-- the statistics so far are within what n rows can give
pub record FitsRows {V : Type 0} (r : Running V) (n : ℕ) : Type 0 where
  pub nulls : r.null_count ≤ n
  pub sum : FitsSum r.sum n

-- Without a value all are null. Otherwise none is null, and the greatest is at most the least.
abbrev pub constant_by : Option Content → Option Content → ℕ → Bool
constant_by (Some least) (Some greatest) nulls = (nulls == 0) && is_at_most greatest least
constant_by least greatest nulls = true
