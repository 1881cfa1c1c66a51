-- What is true of each chunk of a table.
use Rattle.std.specs.Prelude.{ℕ, List, [], ◌∷◌, map, Bool, true, false, ◌&&◌, nat_lt, nat_eq}
use Rattle.std.specs.Cmp.Lexicographic.{pointwise}
use Rattle.vortex_model.specs.LogicalType.{LogicalType, eq_type}
use Rattle.vortex_model.specs.Path.{Positions, eq_positions}
use Rattle.vortex_arrays_model.specs.Layout.{len_of, array_type_of}
use Rattle.vortex_table_schema.specs.Leaves.{leaf_positions}
use Rattle.vortex_table_chunk.specs.Bounds.{are_typed_at}
use Rattle.vortex_table_chunk.specs.declared.chunk.Chunk.{Chunk}

-- the leaves are equal, one by one
abbrev pub eq_leaves : List Positions → List Positions → Bool
eq_leaves [] [] = true
eq_leaves (is ∷ xs) (js ∷ ys) = eq_positions is js && eq_leaves xs ys
eq_leaves xs ys = false

-- these are the bound lengths of the type's leaves, one by one
abbrev pub are_lengths_of : (Positions → ℕ) → LogicalType → List ℕ → Bool
are_lengths_of L k lengths = pointwise nat_eq lengths (map L (leaf_positions k))

-- the chunk has rows, its array is of the type, its leaves are those of the type and its bound
-- lengths theirs, and its statistics are of the types of the leaves
abbrev pub is_formed : (Positions → ℕ) → LogicalType → Chunk → Bool
is_formed L k c =
    nat_lt 0 (len_of c.array) &&
    (eq_type (array_type_of c.array) k &&
    (eq_leaves c.leaves.value.items (leaf_positions k) && (are_lengths_of L k c.lengths.value.items
    && are_typed_at k c.leaves.value.items c.bounds.items)))
