-- What calls leave of a table.
use Rattle.std.specs.Prelude.{◌≡◌, ◌⊎◌, List, [], ◌∷◌, ◌++◌, length, map, None}
use Rattle.std.specs.List.{AllZip}
use Rattle.vortex_table_chunk.specs.declared.chunk.Chunk.{Chunk}
use Rattle.vortex_stats_array.specs.declared.array_stats.ArrayStats.{ArrayStats}
use Rattle.vortex_stats_array.specs.Alike.{SaysTheSame}
use Rattle.vortex_table_core.specs.Arrays.{arrays_of}
use Rattle.vortex_table_core.specs.Statistics.{statistics_of}
use Rattle.vortex_table_core.specs.TableView.{table_of}
use Rattle.vortex_table_core.specs.declared.group.Group.{Group}
use Rattle.vortex_table_core.specs.declared.table.Table.{Table}

-- no call distinguishes the type, the bound lengths or the chunks of both
pub record HasChunksOf (old new : Table) : Type 0 where
  pub dtype : new.dtype ≡ old.dtype
  pub bound_lengths : new.bound_lengths ≡ old.bound_lengths
  pub chunks : new.chunks.items ≡ old.chunks.items

-- no call distinguishes both, by their groups either, each with its statistics
pub record ShowsTheSame (old new : Table) : Type 0 where
  pub chunks : HasChunksOf old new
  pub groups : new.groups ≡ old.groups

-- the chunk comes after all others, in a group of its own
pub record HasOneMore (c : Chunk) (g : Group) (old new : Table) : Type 0 where
  pub dtype : new.dtype ≡ old.dtype
  pub bound_lengths : new.bound_lengths ≡ old.bound_lengths
  pub chunks : new.chunks.items ≡ old.chunks.items ++ c ∷ []
  pub groups : new.groups ≡ old.groups ++ g ∷ []
  pub first : g.first ≡ length old.chunks.items
  pub alone : g.chunks ≡ 1
  pub own : g.joined ≡ None

-- Nothing is added, or one chunk.
abbrev pub AddsAChunk : Table → Table → Type 0
AddsAChunk old new = ShowsTheSame old new ⊎ ((c : Chunk) × (g : Group) × HasOneMore c g old new)

-- ---- clones

-- one to one, the statistics of leaf columns say the same
abbrev pub SayTheSame : List ArrayStats → List ArrayStats → Type 0
SayTheSame = AllZip SaysTheSame

-- No call distinguishes both: not by their rows, nor by how these are laid out, nor by the
-- statistics of their chunks and groups.
pub record IsCloneOf (old new : Table) : Type 0 where
  pub table : table_of new ≡ table_of old
  pub arrays : arrays_of new ≡ arrays_of old
  pub chunks : AllZip SayTheSame (map (λ c. c.bounds.items) old.chunks.items)
      (map (λ c. c.bounds.items) new.chunks.items)
  pub groups : AllZip SayTheSame (statistics_of old) (statistics_of new)
