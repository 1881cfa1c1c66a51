-- What a clone of a chunk has.
use Rattle.std.specs.Prelude.{◌≡◌}
use Rattle.std.specs.List.{AllZip}
use Rattle.vortex_stats_array.specs.Alike.{SaysTheSame}
use Rattle.vortex_table_chunk.specs.declared.chunk.Chunk.{Chunk}

-- both have the same array, and like statistics of the same leaves
pub record IsCloneOf (old new : Chunk) : Type 0 where
  pub array : new.array ≡ old.array
  pub leaves : new.leaves.value.items ≡ old.leaves.value.items
  pub lengths : new.lengths.value.items ≡ old.lengths.value.items
  pub bounds : AllZip SaysTheSame old.bounds.items new.bounds.items
