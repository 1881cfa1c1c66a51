-- Statistics of the leaves of chunks that are joined to a group.
use Rattle.std.specs.Prelude.{◌≡◌, ◌≤◌, ℕ, List, [], ◌∷◌, length, map, sum, Some, true}
use Rattle.vortex_model.specs.LogicalType.{LogicalType}
use Rattle.vortex_model.specs.Content.{Content}
use Rattle.vortex_model.specs.Kept.{is_leaf}
use Rattle.vortex_model.specs.Path.{Positions, type_at}
use Rattle.vortex_model_table.specs.Scan.{kind_at}
use Rattle.vortex_model_table.specs.ZoneMap.{ZoneMap, zone_of, values_at, Joins, all_joined, made_by}
use Rattle.vortex_stats_array.specs.Zones.{zone_in}
use Rattle.vortex_table_chunk.specs.zones.Typed.{is_typed_as}
use Rattle.vortex_stats_array.specs.declared.array_stats.ArrayStats.{ArrayStats}

-- joins in some order make it of the zone maps of the chunks' columns
abbrev pub IsMadeOf : LogicalType → ℕ → List (List Content) → ZoneMap → Type 0
IsMadeOf k L columns z =
    (joins : Joins) × (all_joined joins ≡ map (zone_of k L) columns) × (made_by k joins ≡ z)

-- how many rows chunks have
abbrev pub rows_in : List (List Content) → ℕ
rows_in chunks = sum (map length chunks)

-- the part at these positions is a leaf of this type
pub record IsLeafAt (k : LogicalType) (is : Positions) (part : LogicalType) : Type 0 where
  pub there : type_at k is ≡ Some part
  pub leaf : is_leaf part ≡ true

-- The statistics are those of a column of these chunks of a type, at these bound lengths, and are
-- values of the types that the column has for them.
pub record IsJoined (k : LogicalType) (L : Positions → ℕ) (is : Positions) (b : ArrayStats)
    (chunks : List (List Content)) : Type 0 where
  pub made : (part : LogicalType) → IsLeafAt k is part →
      IsMadeOf part (L is) (map (values_at is) chunks) (zone_in b)
  pub nulls : b.null_count ≤ rows_in chunks
  pub rows : b.row_count ≡ rows_in chunks
  pub types : is_typed_as (kind_at k is) b ≡ true

-- one to one, the statistics are those of the chunks' leaves at these positions
abbrev pub AreJoined : LogicalType → (Positions → ℕ) → List Positions → List ArrayStats →
    List (List Content) → Type 0
AreJoined k L [] [] chunks = Unit {0}
AreJoined k L (is ∷ leaves) (b ∷ bounds) chunks =
    IsJoined k L is b chunks × AreJoined k L leaves bounds chunks
AreJoined k L leaves bounds chunks = ⊥
