-- Columns to which the rows of an append are added.
use Rattle.std.specs.Prelude.{◌≡◌, ◌<◌, ℕ, List, length, Some}
use Rattle.json.specs.Token.{Token}
use Rattle.serde_json.specs.Data.{array}
use Rattle.vortex_model.specs.LogicalType.{LogicalType, Fields}
use Rattle.vortex_model.specs.Content.{Raw}
use Rattle.vortex_table_request.specs.Rows.{reading, readings, element_readings}
use Rattle.vortex_table_columns.specs.Columns.{column_type, Takes}
use Rattle.vortex_table_columns.specs.Nested.{Column, columns_of, IsOf, AreOf, Gains, GainsAll, EachGains}
use Rattle.vortex_table_columns.specs.declared.column.ColumnBuilder.{ColumnBuilder}
use Rattle.vortex_table_columns.specs.declared.nested.NestedBuilder.{NestedBuilder}
use Rattle.vortex_table_tokens.specs.Values.{HasValue, HasItems}

-- The column has one more cell, the next value.
abbrev pub TakesLeaf : List Token → ColumnBuilder → ColumnBuilder → List Token → Type 0
TakesLeaf start old new rest = (cell : Raw) × Takes old cell new
    × ((depth : ℕ) → HasValue depth start (λ d. reading (column_type old) d ≡ Some cell) rest)

-- The column has one more cell: for each type of the column, the next value, nested at most `depth`
-- deep. Fewer tokens are left.
abbrev pub TakesValue : ℕ → List Token → Column → Column → List Token → Type 0
TakesValue depth start old new rest = (cell : Raw) × Gains old cell new
    × ((k : LogicalType) → IsOf old k
    → HasValue depth start (λ d. reading k d ≡ Some cell) rest) × (length rest < length start)

-- The column has one more cell: for each type of the column, the array of the next items, nested at
-- most `depth` deep. Fewer tokens are left.
abbrev pub TakesArray : ℕ → List Token → Column → Column → List Token → Type 0
TakesArray depth start old new rest = (cell : Raw) × Gains old cell new
    × ((k : LogicalType) → IsOf old k
    → HasItems depth start (λ ds. reading k (array ds) ≡ Some cell) rest)
    × (length rest < length start)

-- Each column has one of the next items added, up to the end of their array.
abbrev pub EachTakes : ℕ → List Token → List NestedBuilder → List NestedBuilder → List Token
    → Type 0
EachTakes depth start old new rest = (cells : List Raw) × EachGains old cells new
    × ((fs : Fields) → AreOf (columns_of old) fs
    → HasItems depth start (λ ds. readings fs ds ≡ Some cells) rest)
    × (length rest < length start)

-- The column has the next items added, up to the end of their array.
abbrev pub TakesItems : ℕ → List Token → Column → List Raw → Column → List Token → Type 0
TakesItems depth start old cells new rest = GainsAll old cells new
    × ((k : LogicalType) → IsOf old k
    → HasItems depth start (λ ds. element_readings k ds ≡ Some cells) rest)
    × (length rest < length start)
