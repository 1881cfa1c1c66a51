-- The statistics of the groups of a table: whose they are.
use Rattle.std.specs.Prelude.{◌≡◌, ◌+◌, ℕ, zero, suc, List, [], ◌∷◌, map, slice_get, slice_index_or, Option, Some, None, option_map, option_and_then}
use Rattle.std.specs.List.{All}
use Rattle.vortex_model.specs.LogicalType.{LogicalType, nullable}
use Rattle.vortex_model.specs.Path.{Positions}
use Rattle.vortex_model_table.specs.ZoneMap.{joined}
use Rattle.vortex_dtype_core.specs.View.{type_of}
use Rattle.vortex_table_schema.specs.Description.{IsDescription}
use Rattle.vortex_table_schema.specs.Leaves.{leaf_positions}
use Rattle.vortex_table_schema.specs.Lengths.{length_in}
use Rattle.vortex_table_schema.specs.declared.description.Description.{Description}
use Rattle.vortex_table_chunk.specs.BoundStat.{bounds_at}
use Rattle.vortex_table_chunk.specs.Chunk.{chunk_rows}
use Rattle.vortex_table_chunk.specs.Joined.{IsLeafAt}
use Rattle.vortex_stats_array.specs.Zones.{zone_in}
use Rattle.vortex_table_chunk.specs.declared.chunk.Chunk.{Chunk}
use Rattle.vortex_stats_array.specs.declared.array_stats.ArrayStats.{ArrayStats}
use Rattle.vortex_table_layout.specs.InOrder.{AreInOrder}
use Rattle.vortex_table_plan.specs.Described.{HasTypesOf}
use Rattle.vortex_table_core.specs.Group.{chunks_of}
use Rattle.vortex_table_core.specs.declared.group.Group.{Group}
use Rattle.vortex_table_core.specs.declared.table.Table.{Table}

-- the joined statistics of a group, or else those of its first chunk, which is the only one
abbrev pub statistics_by : Option (List ArrayStats) → List Chunk → List ArrayStats
statistics_by (Some bounds) chunks = bounds
statistics_by None [] = []
statistics_by None (c ∷ chunks) = c.bounds.items

-- the statistics of each leaf column in the rows of a group
abbrev pub statistics_in : List Chunk → Group → List ArrayStats
statistics_in chunks g = statistics_by (option_map (λ v. v.items) g.joined) (chunks_of chunks g)

-- of each group of a table
abbrev pub statistics_of : Table → List (List ArrayStats)
statistics_of t = map (statistics_in t.chunks.items) t.groups

-- ---- joins

-- The statistics of a leaf column are those of two neighbours as one: their zone map is the one
-- that is joined of theirs, the left one first.
abbrev pub IsMerged : LogicalType → Positions → ArrayStats → ArrayStats → ArrayStats → Type 0
IsMerged k is a b both = (part : LogicalType) → IsLeafAt k is part →
    zone_in both ≡ joined part (zone_in a) (zone_in b)

-- one to one, of the leaves at these positions
abbrev pub AreMerged : LogicalType → List Positions → List ArrayStats → List ArrayStats →
    List ArrayStats → Type 0
AreMerged k [] [] [] [] = Unit {0}
AreMerged k (is ∷ leaves) (a ∷ left) (b ∷ right) (both ∷ all) =
    IsMerged k is a b both × AreMerged k leaves left right all
AreMerged k leaves left right all = ⊥

-- the group has the statistics of the one at the index and of the next one, merged
abbrev pub IsMergedGroup : LogicalType → List Group → ℕ → List Chunk → Group → Type 0
IsMergedGroup k groups i chunks one = AreMerged k (leaf_positions k)
    (statistics_in chunks (slice_index_or groups i one))
    (statistics_in chunks (slice_index_or groups (i + 1) one)) (statistics_in chunks one)

-- The statistics of the group at the index and of the next one are merged. All others stay.
abbrev pub AreMergedAt : LogicalType → ℕ → List (List ArrayStats) → List (List ArrayStats) →
    Type 0
AreMergedAt k zero (left ∷ right ∷ old) (both ∷ new) =
    AreMerged k (leaf_positions k) left right both × (new ≡ old)
AreMergedAt k (suc i) (a ∷ old) (b ∷ new) = (b ≡ a) × AreMergedAt k i old new
AreMergedAt k i old new = ⊥

-- ---- retypings

-- Each of the groups has the statistics of its chunks, merged from the first to the last.
abbrev pub AreMergedInOrder : LogicalType → (Positions → ℕ) → List Chunk → List Group → Type 0
AreMergedInOrder k L chunks groups = All (λ g. AreInOrder k L (leaf_positions k)
    (statistics_in chunks g) (map chunk_rows (chunks_of chunks g))) groups

-- each group of a table has the statistics of its chunks, merged from the first to the last
abbrev pub HasMergedInOrder : Table → Type 0
HasMergedInOrder t =
    AreMergedInOrder (type_of t.dtype) (length_in t.bound_lengths) t.chunks.items t.groups

-- ---- descriptions

-- the statistics of the leaf column at these positions in the group at the index
abbrev pub statistics_at : Table → Positions → ℕ → Option ArrayStats
statistics_at t is i = option_and_then
    (λ bounds. bounds_at (leaf_positions (type_of t.dtype)) bounds is)
    (slice_get (statistics_of t) i)

-- The description has these statistics. Its bounds are of the type of the values, which may be
-- null.
pub record IsDescribedBy (b : ArrayStats) (d : Description) : Type 0 where
  pub contents : IsDescription d (zone_in b)
  pub types : HasTypesOf nullable b d
