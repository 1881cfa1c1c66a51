-- Columns of any type that tables can hold, which grow cell by cell.
use Rattle.std.specs.Prelude.{◌≡◌, ◌<◌, ℕ, List, [], ◌∷◌, ◌++◌, length, map, take, Bool, cond, Option, is_some, option_map, unwrap_or, sum_by, slice_index_or, All}
use Rattle.std.specs.List.{flat_map}
use Rattle.vortex_model.specs.LogicalType.{LogicalType, list, fixed_list, struct, Fields, no_fields, field}
use Rattle.vortex_model.specs.Content.{Raw, raw_null, raw_tuple}
use Rattle.vortex_scalar_value.specs.View.{raws_from}
use Rattle.vortex_arrays_model.specs.Layout.{Layout, array_type_of}
use Rattle.vortex_table_columns.specs.Cells.{cell_raw, IsColumn}
use Rattle.vortex_table_columns.specs.Columns.{column_type, cells_of}
use Rattle.vortex_table_columns.specs.declared.nested.NestedBuilder.{NestedBuilder, fold-NestedBuilder}
use Rattle.vortex_table_columns.specs.declared.nested.NestedBuilder.TheOpen.{NestedBuilder-F}

mutual
  -- The cells of a leaf type. Structs, by which are not null and a column for each field; lists, by
  -- the size of each, none for null, and the items of all; fixed-size lists, by the size, which are
  -- not null, and the items of all.
  pub data Column : Type 0 where
    leaves : LogicalType → List Raw → Column
    tuples : List Bool → Columns → Column
    lists : List (Option ℕ) → Column → Column
    sized_lists : ℕ → List Bool → Column → Column

  pub data Columns : Type 0 where
    no_columns : Columns
    next_column : Column → Columns → Columns

abbrev pub columns_from : List Column → Columns
columns_from [] = no_columns
columns_from (c ∷ cs) = next_column c (columns_from cs)

-- one level, with each column inside already converted
abbrev pub column_step : NestedBuilder-F Column → Column
column_step (NestedBuilder-F.Leaf c) = leaves (column_type c) (cells_of c)
column_step (NestedBuilder-F.Records present cs) =
    tuples (map is_some present.items) (columns_from cs.items)
column_step (NestedBuilder-F.Lists sizes c) = lists sizes.items c.value
column_step (NestedBuilder-F.FixedLists size present c) =
    sized_lists size (map is_some present.items) c.value

-- the column of a builder
abbrev pub column_of : NestedBuilder → Column
column_of = fold-NestedBuilder Column column_step

abbrev pub columns_of : List NestedBuilder → Columns
columns_of cs = columns_from (map column_of cs)

-- ---- the cells of a column

-- a struct or a list of these
abbrev pub tuple_of : List Raw → Raw
tuple_of rs = raw_tuple (raws_from rs)

-- the parts, or null whatever the parts are
abbrev pub tuple_or_null : Bool × List Raw → Raw
tuple_or_null row = cond row.0 (tuple_of row.1) raw_null

abbrev pub first_of : List Raw → Raw
first_of [] = raw_null
first_of (r ∷ rs) = r

abbrev pub rest_of : List Raw → List Raw
rest_of [] = []
rest_of (r ∷ rs) = rs

abbrev pub IsEmpty : List Raw → Type 0
IsEmpty rs = rs ≡ []

abbrev pub HasFirst : List Raw → Type 0
HasFirst rs = rs ≡ first_of rs ∷ rest_of rs

-- the items of a list, and none for null
abbrev pub items_in : Option (List Raw) → List Raw
items_in row = unwrap_or row []

abbrev mutual
  -- The column is of the type, and has these cells.
  pub Holds : Column → LogicalType → List Raw → Type 0
  Holds (leaves k cells) l rs = (k ≡ l) × (cells ≡ rs)
  Holds (tuples present cs) (struct fs n) rs = (rows : List (Bool × List Raw))
      × (present ≡ map (λ row. row.0) rows) × (rs ≡ map tuple_or_null rows)
      × HaveFields cs fs (map (λ row. row.1) rows)
  Holds (lists sizes c) (list k n) rs = (rows : List (Option (List Raw)))
      × (sizes ≡ map (option_map length) rows) × (rs ≡ map (cell_raw tuple_of) rows)
      × Holds c k (flat_map items_in rows)
  Holds (sized_lists m present c) (fixed_list k size n) rs = (rows : List (Bool × List Raw))
      × (present ≡ map (λ row. row.0) rows) × (rs ≡ map tuple_or_null rows)
      × (m ≡ size) × All (λ row. length row.1 ≡ m) rows × Holds c k (flat_map (λ row. row.1) rows)
  Holds c k rs = ⊥

  -- a column for each field, with the rows' parts at its index
  pub HaveFields : Columns → Fields → List (List Raw) → Type 0
  HaveFields no_columns no_fields rows = All IsEmpty rows
  HaveFields (next_column c cs) (field x k fs) rows =
      All HasFirst rows × Holds c k (map first_of rows) × HaveFields cs fs (map rest_of rows)
  HaveFields cs fs rows = ⊥

abbrev pub IsOf : Column → LogicalType → Type 0
IsOf c k = (rs : List Raw) × Holds c k rs

abbrev pub AreOf : Columns → Fields → Type 0
AreOf cs fs = (rows : List (List Raw)) × HaveFields cs fs rows

-- ---- more cells

-- the new column has one more cell
abbrev pub Gains : Column → Raw → Column → Type 0
Gains old cell new = (k : LogicalType) (rs : List Raw) → Holds old k rs
    → Holds new k (rs ++ cell ∷ [])

-- the new column has these cells added
abbrev pub GainsAll : Column → List Raw → Column → Type 0
GainsAll old cells new = (k : LogicalType) (rs : List Raw) → Holds old k rs
    → Holds new k (rs ++ cells)

-- each column has one of the cells added
abbrev pub EachGains : List NestedBuilder → List Raw → List NestedBuilder → Type 0
EachGains [] [] [] = Unit {0}
EachGains (c ∷ cs) (r ∷ rs) (d ∷ ds) =
    Gains (column_of c) r (column_of d) × EachGains cs rs ds
EachGains cs rs ds = ⊥

-- ---- arrays

-- an array for each field, of the rows' parts at its index
abbrev pub AreArrays : Fields → List (List Raw) → List Layout → Type 0
AreArrays no_fields rows [] = All IsEmpty rows
AreArrays (field x k fs) rows (a ∷ arrays) =
    All HasFirst rows × IsColumn k (map first_of rows) a × AreArrays fs (map rest_of rows) arrays
AreArrays fs rows arrays = ⊥

-- the arrays have the parts of these structs
pub record HaveInside (fs : Fields) (present : List Bool) (arrays : List Layout)
    (rows : List (Bool × List Raw)) : Type 0 where
  pub marks : present ≡ map (λ row. row.0) rows
  pub inside : AreArrays fs (map (λ row. row.1) rows) arrays

-- the items are those of lists of these sizes
pub record AreLists (sizes : List (Option ℕ)) (items : Layout) (rows : List (Option (List Raw))) :
    Type 0 where
  pub counts : sizes ≡ map (option_map length) rows
  pub inside : IsColumn (array_type_of items) (flat_map items_in rows) items

-- the items are those of lists of this size
pub record AreSizedLists (size : ℕ) (present : List Bool) (items : Layout)
    (rows : List (Bool × List Raw)) : Type 0 where
  pub marks : present ≡ map (λ row. row.0) rows
  pub counts : All (λ row. length row.1 ≡ size) rows
  pub inside : IsColumn (array_type_of items) (flat_map (λ row. row.1) rows) items

-- the lists are end to end: each begins after the items of those before
pub record StandEndToEnd (sizes offsets : List ℕ) : Type 0 where
  pub many : length offsets ≡ length sizes
  pub offset : (i : ℕ) → i < length sizes →
      slice_index_or offsets i 0 ≡ sum_by (λ n. n) (take i sizes)
