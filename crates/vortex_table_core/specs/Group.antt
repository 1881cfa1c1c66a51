-- What is true of the groups of a table.
use Rattle.std.specs.Prelude.{◌≡◌, ◌<◌, ◌+◌, ℕ, List, [], ◌∷◌, length, map, take, drop, slice_index_or, Option, Some, None, option_map}
use Rattle.std.specs.Coded.{Coded-set, coded_ℕ, ×_prop, Unit-prop, le_prop}
use Rattle.std.proofs.Math.Logic.{∥∥₁_prop}
use Rattle.vortex_model.specs.LogicalType.{LogicalType}
use Rattle.vortex_model.specs.Path.{Positions}
use Rattle.vortex_table_chunk.specs.Chunk.{chunk_rows}
use Rattle.vortex_table_chunk.specs.Joined.{AreJoined, rows_in}
use Rattle.vortex_table_chunk.specs.declared.chunk.Chunk.{Chunk}
use Rattle.vortex_stats_array.specs.declared.array_stats.ArrayStats.{ArrayStats}
use Rattle.vortex_table_schema.specs.Leaves.{leaf_positions}
use Rattle.vortex_table_core.specs.declared.group.Group.{Group}

-- Two or more chunks have the statistics that joins make of theirs. One chunk has its own.
abbrev pub HasStatistics : LogicalType → (Positions → ℕ) → Option (List ArrayStats) →
    List Chunk → Type 0
HasStatistics k L None chunks = length chunks ≡ 1
HasStatistics k L (Some bounds) chunks =
    (1 < length chunks) × ∥ AreJoined k L (leaf_positions k) bounds (map chunk_rows chunks) ∥₁

-- the group has these chunks of a type, at these bound lengths
pub record IsGroup (k : LogicalType) (L : Positions → ℕ) (g : Group)
    (chunks : List Chunk) : Type 0 where
  pub count : length chunks ≡ g.chunks
  pub some : 0 < g.chunks
  pub rows : rows_in (map chunk_rows chunks) ≡ g.rows
  pub statistics : HasStatistics k L (option_map (λ v. v.items) g.joined) chunks

-- the groups have these chunks, one after another, of which the first has this index
abbrev pub AreGroups : LogicalType → (Positions → ℕ) → ℕ → List Group → List Chunk → Type 0
AreGroups k L i [] [] = Unit {0}
AreGroups k L i [] (c ∷ chunks) = ⊥
AreGroups k L i (g ∷ groups) chunks =
    (g.first ≡ i) × IsGroup k L g (take g.chunks chunks)
    × AreGroups k L (i + g.chunks) groups (drop g.chunks chunks)

-- the chunks of a group, among those of its table
abbrev pub chunks_of : List Chunk → Group → List Chunk
chunks_of chunks g = take g.chunks (drop g.first chunks)

-- the group has the chunks of the one at the index and of the next one
pub record IsOneGroup (k : LogicalType) (L : Positions → ℕ) (groups : List Group) (index : ℕ)
    (chunks : List Chunk) (one : Group) : Type 0 where
  pub first : one.first ≡ (slice_index_or groups index one).first
  pub count : one.chunks ≡ (slice_index_or groups index one).chunks +
      (slice_index_or groups (index + 1) one).chunks
  pub group : IsGroup k L one (chunks_of chunks one)

-- ---- at most one proof of each

HasStatistics-prop : (k : LogicalType) (L : Positions → ℕ) (o : Option (List ArrayStats))
    (chunks : List Chunk) → IsProp (HasStatistics k L o chunks)
HasStatistics-prop k L None chunks = Coded-set coded_ℕ _ _
HasStatistics-prop k L (Some bounds) chunks = ×_prop le_prop ∥∥₁_prop

IsGroup-prop : (k : LogicalType) (L : Positions → ℕ) (g : Group) (chunks : List Chunk) →
    IsProp (IsGroup k L g chunks)
IsGroup-prop k L g chunks = λ p q i. record {
  count = Coded-set coded_ℕ _ _ p.count q.count i;
  some = le_prop p.some q.some i;
  rows = Coded-set coded_ℕ _ _ p.rows q.rows i;
  statistics = HasStatistics-prop k L (option_map (λ v. v.items) g.joined) chunks p.statistics
      q.statistics i;
}

pub AreGroups-prop : (k : LogicalType) (L : Positions → ℕ) (i : ℕ) (groups : List Group)
    (chunks : List Chunk) → IsProp (AreGroups k L i groups chunks)
AreGroups-prop k L i [] [] = Unit-prop
AreGroups-prop k L i [] (c ∷ chunks) = λ p q. absurd p
AreGroups-prop k L i (g ∷ groups) chunks = λ p q j. (
  Coded-set coded_ℕ _ _ p.0 q.0 j,
  IsGroup-prop k L g (take g.chunks chunks) p.1 q.1 j,
  AreGroups-prop k L (i + g.chunks) groups (drop g.chunks chunks) p.2 q.2 j,
)
