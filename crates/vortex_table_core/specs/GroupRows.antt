-- The rows of a group.
use Rattle.std.specs.Prelude.{ℕ, List, flat_map}
use Rattle.vortex_model.specs.Content.{Content}
use Rattle.vortex_model_table.specs.Reply.{chunks_of_group}
use Rattle.vortex_model_table.specs.Table.{Table}

-- the rows of the group at the index, in order
abbrev pub rows_of_group : Table → ℕ → List Content
rows_of_group t i = flat_map (λ chunk. chunk) (chunks_of_group t i)
