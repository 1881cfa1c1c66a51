-- Statistics of chunks joined from the first to the last.
use Rattle.std.specs.Prelude.{◌≡◌, ℕ, List, [], ◌∷◌, map}
use Rattle.vortex_model.specs.LogicalType.{LogicalType}
use Rattle.vortex_model.specs.Content.{Content}
use Rattle.vortex_model.specs.Path.{Positions}
use Rattle.vortex_model_table.specs.ZoneMap.{zone_of, zone_of_group, values_at}
use Rattle.vortex_table_chunk.specs.Joined.{IsLeafAt, AreJoined}
use Rattle.vortex_stats_array.specs.Zones.{zone_in}
use Rattle.vortex_stats_array.specs.declared.array_stats.ArrayStats.{ArrayStats}

-- the statistics are those of a column of these chunks, joined in order
abbrev pub IsInOrder : LogicalType → (Positions → ℕ) → Positions → ArrayStats →
    List (List Content) → Type 0
IsInOrder k L is b chunks = (part : LogicalType) → IsLeafAt k is part →
    zone_in b
    ≡ zone_of_group part (map (zone_of part (L is)) (map (values_at is) chunks))

-- the statistics are those of the leaves at these positions, one to one, joined in order
abbrev pub AreInOrder : LogicalType → (Positions → ℕ) → List Positions → List ArrayStats →
    List (List Content) → Type 0
AreInOrder k L [] [] chunks = Unit {0}
AreInOrder k L (is ∷ leaves) (b ∷ bounds) chunks =
    IsInOrder k L is b chunks × AreInOrder k L leaves bounds chunks
AreInOrder k L leaves bounds chunks = ⊥

-- the statistics are joins of those of the chunks, in order
abbrev pub AreJoinedInOrder : LogicalType → (Positions → ℕ) → List Positions →
    List ArrayStats → List (List Content) → Type 0
AreJoinedInOrder k L leaves bounds chunks =
    AreJoined k L leaves bounds chunks × AreInOrder k L leaves bounds chunks
