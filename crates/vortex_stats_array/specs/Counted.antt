-- Values that occur in rows as often as counted.
use Rattle.std.specs.Prelude.{◌≡◌, ◌<◌, ℕ, pos, ◌+◌, List, [], ◌∷◌, ◌++◌, length, map, replicate, Option, Some, None}
use Rattle.std.specs.Borrow.{Bor}
use Rattle.std.specs.List.{range_with_len}
use Rattle.std.specs.List.Sorted.{IsPermutation}
use Rattle.vortex_model.specs.Content.{Content, null, integer}
use Rattle.vortex_arrays_model.specs.Layout.{pick}
use Rattle.vortex_stats_array.specs.declared.counts.Counts.{Counts}

-- a code that was read, and null where there was none
abbrev pub code_or_null : Option ℕ → Content
code_or_null None = null
code_or_null (Some j) = integer (pos j)

-- what is read at each of the first n rows, by the relation `reads`, is the code of the row
abbrev pub ReadsCodes : ℕ → (ℕ → Option ℕ → Type 0) → (ℕ → Content) → Type 0
ReadsCodes n reads code = (i : ℕ) (v : Option ℕ) → i < n → reads i v → code_or_null v ≡ code i

-- the values from index j on, each as often as counted, and after them the nulls
abbrev pub spread : List ℕ → ℕ → (ℕ → Content) → ℕ → List Content
spread [] nulls value j = replicate nulls null
spread (n ∷ ns) nulls value j = replicate n (value j) ++ spread ns nulls value (j + 1)

abbrev pub counted_rows : Counts → (ℕ → Content) → List Content
counted_rows counts value = spread counts.of_values.items counts.nulls value 0

-- For any values, these as often as counted are the rows that n codes refer to, in some order.
abbrev pub IsCountOf : (ℕ → Content) → ℕ → Counts → Type 0
IsCountOf code n counts = (value : ℕ → Content) →
    IsPermutation (counted_rows counts value) (map (λ i. pick (code i) value) (range_with_len 0 n))

-- there is a count for each of n values, if they are counted
abbrev pub CountsEach : Option (Bor Counts) → ℕ → Type 0
CountsEach None n = Unit {0}
CountsEach (Some counts) n = length counts.now.of_values.items ≡ n

-- the rows are n values, or these as often as counted, in some order
abbrev pub StandIn : Option (Bor Counts) → (ℕ → Content) → ℕ → List Content → Type 0
StandIn None value n rows = map value (range_with_len 0 n) ≡ rows
StandIn (Some counts) value n rows = IsPermutation (counted_rows counts.now value) rows
