-- Rows of chunks that are too large for plain layout.
use Rattle.std.specs.Prelude.{List, [], ◌∷◌, ◌⊎◌}
use Rattle.vortex_model.specs.LogicalType.{LogicalType}
use Rattle.vortex_model.specs.Content.{Content}
use Rattle.vortex_arrays_builder.specs.TooLarge.{AreTooLarge}

-- The rows of some chunk are too large.
abbrev pub AnyTooLarge : LogicalType → List (List Content) → Type 0
AnyTooLarge k [] = ⊥
AnyTooLarge k (rows ∷ chunks) = AreTooLarge k rows ⊎ AnyTooLarge k chunks
