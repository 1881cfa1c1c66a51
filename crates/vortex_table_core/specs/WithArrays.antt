-- Chunks whose rows are laid out in another way.
use Rattle.std.specs.Prelude.{◌≡◌, List, [], ◌∷◌}
use Rattle.vortex_arrays_model.specs.Layout.{Layout}
use Rattle.vortex_table_chunk.specs.declared.chunk.Chunk.{Chunk}

-- the new chunk has the array, and all else of the old one
pub record IsWithArray (old : Chunk) (a : Layout) (new : Chunk) : Type 0 where
  pub array : new.array ≡ a
  pub leaves : new.leaves ≡ old.leaves
  pub lengths : new.lengths ≡ old.lengths
  pub bounds : new.bounds ≡ old.bounds

-- each chunk with its new array, one by one
abbrev pub AreWithArrays : List Chunk → List Layout → List Chunk → Type 0
AreWithArrays [] [] [] = Unit {0}
AreWithArrays (c ∷ old) (a ∷ arrays) (d ∷ new) =
    IsWithArray c a d × AreWithArrays old arrays new
AreWithArrays old arrays new = ⊥
