-- What is true of the groups of a table whose chunks are converted.
use Rattle.std.specs.Prelude.{◌≡◌, ◌<◌, ℕ, List, [], ◌∷◌, length, map, Option, Some, None, is_some, option_map, nat_lt}
use Rattle.vortex_model.specs.LogicalType.{LogicalType}
use Rattle.vortex_model.specs.Content.{Content}
use Rattle.vortex_model.specs.Path.{Positions}
use Rattle.vortex_table_schema.specs.Leaves.{leaf_positions}
use Rattle.vortex_table_chunk.specs.Chunk.{chunk_rows}
use Rattle.vortex_table_chunk.specs.Joined.{rows_in}
use Rattle.vortex_table_chunk.specs.declared.chunk.Chunk.{Chunk}
use Rattle.vortex_stats_array.specs.declared.array_stats.ArrayStats.{ArrayStats}
use Rattle.vortex_table_layout.specs.InOrder.{AreJoinedInOrder}
use Rattle.vortex_table_core.specs.Group.{chunks_of}
use Rattle.vortex_table_core.specs.declared.group.Group.{Group}

-- the group has as many chunks and rows as these, and statistics where they are two or more
pub record IsSizeOf (g : Group) (chunks : List (List Content)) : Type 0 where
  pub count : length chunks ≡ g.chunks
  pub some : 0 < g.chunks
  pub rows : rows_in chunks ≡ g.rows
  pub many : is_some g.joined ≡ nat_lt 1 (length chunks)

-- Two or more chunks have their statistics joined from the first to the last. One has its own.
abbrev pub HasOrdered : LogicalType → (Positions → ℕ) → Option (List ArrayStats) →
    List Chunk → Type 0
HasOrdered k L None chunks = length chunks ≡ 1
HasOrdered k L (Some bounds) chunks = (1 < length chunks)
    × ∥ AreJoinedInOrder k L (leaf_positions k) bounds (map chunk_rows chunks) ∥₁

-- the new group is the old one with the statistics of its converted chunks, which are among these
pub record IsRegrouped (k : LogicalType) (L : Positions → ℕ) (chunks : List Chunk)
    (old new : Group) : Type 0 where
  pub first : new.first ≡ old.first
  pub count : new.chunks ≡ old.chunks
  pub rows : new.rows ≡ old.rows
  pub statistics : HasOrdered k L (option_map (λ v. v.items) new.joined) (chunks_of chunks new)

-- all groups are regrouped, one by one
abbrev pub AreRegrouped : LogicalType → (Positions → ℕ) → List Chunk → List Group →
    List Group → Type 0
AreRegrouped k L chunks [] [] = Unit {0}
AreRegrouped k L chunks (g ∷ old) (h ∷ new) =
    IsRegrouped k L chunks g h × AreRegrouped k L chunks old new
AreRegrouped k L chunks old new = ⊥
