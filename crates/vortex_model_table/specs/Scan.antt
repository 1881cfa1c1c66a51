-- Which chunks a scan skips, takes whole or tests, and its counts.
use Rattle.std.specs.Prelude.{ℕ, suc, ◌+◌, ◌*◌, ◌-◌, ◌^◌, List, [], ◌∷◌, length, take, drop, map, filter, zip, sum, count_by, flat_map, Option, Some, None, is_some, option_map, option_and_then, Bool, true, false, not, ◌&&◌, if◌then◌else◌, nat_lt}
use Rattle.vortex_model.specs.LogicalType.{LogicalType, null_only}
use Rattle.vortex_model.specs.Content.{Content, null}
use Rattle.vortex_model.specs.Path.{Names, Positions, positions, type_at}
use Rattle.vortex_model.specs.Kept.{is_leaf}
use Rattle.vortex_model_table.specs.Expression.{Expression, column, Aggregate, min, max, null_count, all_null, all_non_null}
use Rattle.vortex_model_table.specs.Truth.{evaluate, is_true}
use Rattle.vortex_model_table.specs.Statistics.{placeholder_value}
use Rattle.vortex_model_table.specs.ZoneMap.{ZoneMap, zone_of, group_bounds, values_at, statistics_of}
use Rattle.vortex_model_table.specs.Rewrite.{falsifier, satisfier}
use Rattle.vortex_model_table.specs.Table.{Table, bound_length, answer}
use Rattle.vortex_model_table.specs.Cut.{cut_type}

-- ---- zone maps by path

-- the zone map of a leaf column of a chunk, by its position and type
abbrev pub chunk_zone_at : Table → List Content → Positions → LogicalType → ZoneMap
chunk_zone_at t chunk is k = zone_of k (bound_length t is) (values_at is chunk)

-- the type at positions, and `null_only` where there is none
abbrev pub kind_at : LogicalType → Positions → LogicalType
kind_at k is = elim (type_at k is) [ None ↦ null_only | Some t ↦ t ]

-- the positions with the type, where it is a leaf's
abbrev pub if_leaf : Positions → Option LogicalType → Option (Positions × LogicalType)
if_leaf is None = None
if_leaf is (Some k) = if is_leaf k then Some (is, k) else None

-- the positions and the type of the leaf that a path leads to, where it leads to one
abbrev pub leaf_at : LogicalType → Names → Option (Positions × LogicalType)
leaf_at k xs = option_and_then (λ is. if_leaf is (type_at k is)) (positions k xs)

-- The zone map of a leaf column of a chunk. Other columns, and paths that aren't in the type, have
-- none.
abbrev pub chunk_zone : Table → List Content → Names → Option ZoneMap
chunk_zone t chunk xs = option_map (λ leaf. chunk_zone_at t chunk leaf.0 leaf.1) (leaf_at t.kind xs)

-- the zone map of a leaf column over the chunks of a group
abbrev pub group_zone : Table → List (List Content) → Names → Option ZoneMap
group_zone t chunks xs =
    option_map (λ leaf. group_bounds (map (λ chunk. chunk_zone_at t chunk leaf.0 leaf.1) chunks))
    (leaf_at t.kind xs)

-- ---- proofs

-- The statistics that a scan knows of its leaf columns: bounds and null counts.
abbrev pub is_bound : Aggregate → Bool
is_bound min = true
is_bound max = true
is_bound null_count = true
is_bound all_null = true
is_bound all_non_null = true
is_bound a = false

-- a placeholder's value by a zone map over `rows` rows, and null where that is not known
abbrev pub told : Option ZoneMap → ℕ → Aggregate → Content
told None rows a = null
told (Some z) rows a = if is_bound a then placeholder_value a (statistics_of z) rows else null

-- the value of each placeholder: the statistic of a leaf column, where it is known, and else null
abbrev pub known : (Names → Option ZoneMap) → ℕ → Expression → Aggregate → Content
known zones rows (column xs) a = told (zones xs) rows a
known zones rows e a = null

-- The proof is true by these zone maps. It is a built-in one, which reads no column itself.
abbrev pub proves : (Names → Option ZoneMap) → ℕ → Option Expression → Bool
proves zones rows None = false
proves zones rows (Some proof) =
    is_true (evaluate (record {
      columns = λ xs. null;
      placeholders = known zones rows;
      rows = rows;
    }) proof)

-- ---- chunks

-- what a scan does with a chunk
pub data Outcome : Type 0 where
  skipped_in_group skipped whole tested : Outcome

-- A chunk is skipped where the falsifier is true, is taken whole where the satisfier is, and else
-- is tested row by row.
abbrev pub chunk_outcome : Table → Expression → List Content → Outcome
chunk_outcome t e chunk =
    if proves (chunk_zone t chunk) (length chunk) (falsifier t.kind e) then skipped
    else (if proves (chunk_zone t chunk) (length chunk) (satisfier t.kind e) then whole else tested)

-- two or more
abbrev pub is_many : List (List Content) → Bool
is_many chunks = nat_lt 1 (length chunks)

-- a group of two or more chunks is judged as a whole first
abbrev pub group_outcomes : Table → Expression → List (List Content) → List Outcome
group_outcomes t e chunks =
    if is_many chunks && proves (group_zone t chunks) (sum (map length chunks)) (falsifier t.kind e)
    then map (λ chunk. skipped_in_group) chunks else map (chunk_outcome t e) chunks

-- the chunks of each group
abbrev pub grouped : List ℕ → List (List Content) → List (List (List Content))
grouped [] chunks = []
grouped (n ∷ ns) chunks = take n chunks ∷ grouped ns (drop n chunks)

-- the outcomes of all chunks in order
abbrev pub outcomes : Table → Expression → List Outcome
outcomes t e = flat_map (group_outcomes t e) (grouped t.groups t.chunks)

abbrev pub is_skipped : Outcome → Bool
is_skipped skipped_in_group = true
is_skipped skipped = true
is_skipped whole = false
is_skipped tested = false

abbrev pub is_whole : Outcome → Bool
is_whole whole = true
is_whole o = false

abbrev pub is_tested : Outcome → Bool
is_tested tested = true
is_tested o = false

abbrev pub is_in_group : Outcome → Bool
is_in_group skipped_in_group = true
is_in_group o = false

-- the indexes, counted from i, of the chunks whose outcome passes
abbrev pub numbers : (Outcome → Bool) → ℕ → List Outcome → List ℕ
numbers p i [] = []
numbers p i (o ∷ os) = if p o then i ∷ numbers p (suc i) os else numbers p (suc i) os

-- the indexes of the chunks that are skipped, and of those taken whole, in order
abbrev pub skipped_chunks : Table → Expression → List ℕ
skipped_chunks t e = numbers is_skipped 0 (outcomes t e)

abbrev pub whole_chunks : Table → Expression → List ℕ
whole_chunks t e = numbers is_whole 0 (outcomes t e)

-- ---- counts, which saturate at u64::MAX

-- the count, or u64::MAX where it is above
abbrev pub saturated : ℕ → ℕ
saturated n = if nat_lt n (2 ^ 64) then n else (2 ^ 64 - 1)

-- the number of rows of the tested chunks
abbrev pub tested_lengths : List Outcome → List (List Content) → ℕ
tested_lengths os chunks =
    sum (map (λ pair. length pair.1) (filter (λ pair. is_tested pair.0) (zip os chunks)))

-- the number of rows that are tested one by one
abbrev pub rows_tested : Table → Expression → ℕ
rows_tested t e = saturated (tested_lengths (outcomes t e) t.chunks)

abbrev pub one_if : Bool → ℕ
one_if b = if b then 1 else 0

-- One falsifier at each group of two or more chunks and at each chunk that wasn't skipped with its
-- group, and one satisfier at each chunk that isn't skipped.
abbrev pub proofs_for : Table → Expression → List Outcome → ℕ
proofs_for t e os =
    one_if (is_some (falsifier t.kind e)) *
    (count_by (nat_lt 1) t.groups + count_by (λ o. not (is_in_group o)) os)
    + one_if (is_some (satisfier t.kind e)) * count_by (λ o. not (is_skipped o)) os

-- the number of proofs that were evaluated
abbrev pub proofs : Table → Expression → ℕ
proofs t e = saturated (proofs_for t e (outcomes t e))

-- ---- the whole answer

-- The rows and their type, the indexes of the chunks that were skipped and of those taken whole,
-- the number of rows tested, and the number of proofs evaluated.
pub record ScanAnswer : Type 0 where
  pub rows : List Content
  pub kind : LogicalType
  pub skipped : List ℕ
  pub whole : List ℕ
  pub rows_tested : ℕ
  pub proofs : ℕ

-- the answer to a scan
abbrev pub scanned : Table → List Names → Expression → ScanAnswer
scanned t paths e = record {
  rows = answer t paths e;
  kind = cut_type paths t.kind;
  skipped = skipped_chunks t e;
  whole = whole_chunks t e;
  rows_tested = rows_tested t e;
  proofs = proofs t e;
}
