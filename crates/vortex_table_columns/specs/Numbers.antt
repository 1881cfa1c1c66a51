-- Cells of integers of one type.
use Rattle.std.specs.Prelude.{◌≡◌, ℤ, pos, List, [], ◌∷◌, ◌++◌, map, true, Option, IfSome, option_map}
use Rattle.vortex_model.specs.LogicalType.{IntKind, u8, u16, u32, u64, i8, i16, i32, i64}
use Rattle.vortex_model.specs.Valid.{in_range}
use Rattle.vortex_table_columns.specs.declared.numbers.NumberCells.{NumberCells}
use Rattle.vortex_table_columns.specs.declared.numbers.NumberCells.TheVariants.{U8, U16, U32, U64, I8, I16, I32, I64}

abbrev pub kind_in : NumberCells → IntKind
kind_in (U8 cells) = u8
kind_in (U16 cells) = u16
kind_in (U32 cells) = u32
kind_in (U64 cells) = u64
kind_in (I8 cells) = i8
kind_in (I16 cells) = i16
kind_in (I32 cells) = i32
kind_in (I64 cells) = i64

abbrev pub cells_by : {A : Type 0} → (A → ℤ) → List (Option A) → List (Option ℤ)
cells_by f cells = map (option_map f) cells

abbrev pub integers_in : NumberCells → List (Option ℤ)
integers_in (U8 cells) = cells_by pos cells.items
integers_in (U16 cells) = cells_by pos cells.items
integers_in (U32 cells) = cells_by pos cells.items
integers_in (U64 cells) = cells_by pos cells.items
integers_in (I8 cells) = cells_by (λ z. z) cells.items
integers_in (I16 cells) = cells_by (λ z. z) cells.items
integers_in (I32 cells) = cells_by (λ z. z) cells.items
integers_in (I64 cells) = cells_by (λ z. z) cells.items

-- there is one more cell, null or within the type
pub record Pushes (k : IntKind) (old : List (Option ℤ)) (cell : Option ℤ)
    (new : List (Option ℤ)) : Type 0 where
  pub held : IfSome cell (λ z. in_range k z ≡ true)
  pub pushed : new ≡ old ++ cell ∷ []

abbrev pub IsPushed : NumberCells → Option ℤ → NumberCells → Type 0
IsPushed old cell new = (kind_in new ≡ kind_in old)
    × Pushes (kind_in old) (integers_in old) cell (integers_in new)
