-- A table of rows in chunks.
use Rattle.std.specs.Prelude.{◌≡◌, ℕ, ◌<◌, List, [], ◌∷◌, length, map, sum, flat_map, filter, if◌then◌else◌}
use Rattle.std.specs.List.{AllByRecursion}
use Rattle.vortex_model.specs.LogicalType.{LogicalType}
use Rattle.vortex_model.specs.Content.{Content}
use Rattle.vortex_model.specs.Valid.{IsContent}
use Rattle.vortex_model.specs.Path.{Names, Positions, eq_positions}
use Rattle.vortex_model.specs.Kept.{CanHold}
use Rattle.vortex_model_table.specs.Expression.{Expression}
use Rattle.vortex_model_table.specs.Truth.{selects}
use Rattle.vortex_model_table.specs.Cut.{cut_row}

-- `lengths` has the bound lengths of some leaves by position, and `default` is that of the others.
-- A group is the number of its chunks, which are neighbours.
pub record Table : Type 0 where
  pub kind : LogicalType
  pub default : ℕ
  pub lengths : List (Positions × ℕ)
  pub chunks : List (List Content)
  pub groups : List ℕ

-- what holds of each table
pub record IsTable (t : Table) : Type 0 where
  pub holds : CanHold t.kind
  pub rows : AllByRecursion (λ chunk. AllByRecursion (IsContent t.kind) chunk) t.chunks
  pub not_empty : AllByRecursion (λ chunk. 0 < length chunk) t.chunks
  pub positive : AllByRecursion (λ size. 0 < size) t.groups
  pub grouped : sum t.groups ≡ length t.chunks

-- the length of a position, where the list has it, and else the default
abbrev pub length_for : List (Positions × ℕ) → ℕ → Positions → ℕ
length_for [] default is = default
length_for (entry ∷ entries) default is =
    if eq_positions entry.0 is then entry.1 else length_for entries default is

-- the bound length of a leaf
abbrev pub bound_length : Table → Positions → ℕ
bound_length t is = length_for t.lengths t.default is

-- all rows in order
abbrev pub rows_of : Table → List Content
rows_of t = flat_map (λ chunk. chunk) t.chunks

-- The answer of a scan: the rows that satisfy the predicate, in order, each cut by the paths.
abbrev pub answer : Table → List Names → Expression → List Content
answer t paths e = map (cut_row paths t.kind) (filter (selects t.kind e) (rows_of t))
