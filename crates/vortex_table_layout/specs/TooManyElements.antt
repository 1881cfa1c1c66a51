-- Rows whose lists have 2^64 elements or more.
use Rattle.std.specs.Prelude.{◌≤◌, ◌^◌, ◌⊎◌, ℕ, suc, List, [], ◌∷◌, map, sum_by}
use Rattle.vortex_model.specs.LogicalType.{LogicalType, list, struct, Fields, no_fields, field}
use Rattle.vortex_model.specs.Content.{Content, tuple, count}
use Rattle.vortex_model.specs.Path.{part_of}

-- the number of elements of a list, and 0 for anything else
abbrev pub size_of : Content → ℕ
size_of (tuple cs) = count cs
size_of c = 0

-- a list column that is reached only through structs has 2^64 elements or more
abbrev mutual
  pub HasTooManyElements : LogicalType → List Content → Type 0
  HasTooManyElements (list k n) rows = 2 ^ 64 ≤ sum_by size_of rows
  HasTooManyElements (struct fs n) rows = HaveTooManyElements fs 0 rows
  HasTooManyElements k rows = ⊥

  -- a field does, where the first has position i
  pub HaveTooManyElements : Fields → ℕ → List Content → Type 0
  HaveTooManyElements no_fields i rows = ⊥
  HaveTooManyElements (field x k fs) i rows =
      HasTooManyElements k (map (λ row. part_of row i) rows) ⊎ HaveTooManyElements fs (suc i) rows

-- the rows of some chunk do
abbrev pub AnyHasTooManyElements : LogicalType → List (List Content) → Type 0
AnyHasTooManyElements k [] = ⊥
AnyHasTooManyElements k (rows ∷ chunks) =
    HasTooManyElements k rows ⊎ AnyHasTooManyElements k chunks
