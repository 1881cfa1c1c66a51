-- Bound lengths by the positions of leaves.
use Rattle.std.specs.Prelude.{ℕ, List, map}
use Rattle.vortex_model.specs.Path.{Step, Positions}
use Rattle.vortex_model_table.specs.Table.{length_for}
use Rattle.vortex_dtype_path.specs.View.{steps_of}
use Rattle.vortex_dtype_path.specs.declared.path.FieldPath.{FieldPath}
use Rattle.vortex_table_schema.specs.declared.lengths.BoundLengths.{BoundLengths}

-- the entries of a list, each by its steps
abbrev pub entries_in : List (FieldPath × ℕ) → List (List Step × ℕ)
entries_in entries = map (λ entry. (steps_of entry.0, entry.1)) entries

-- the length of the leaf at these positions
abbrev pub length_in : BoundLengths → Positions → ℕ
length_in lengths is = length_for lengths.entries.items lengths.default is
