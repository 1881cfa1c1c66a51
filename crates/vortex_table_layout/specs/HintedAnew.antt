-- Columns of an array laid out by hints.
use Rattle.std.specs.Prelude.{◌≡◌, ◌⊎◌, ℕ, suc, List, Bool, true, false}
use Rattle.vortex_arrays_model.specs.Layout.{Layout, records, Columns, no_columns, column, array_type_of, rows_of, IsSound}
use Rattle.vortex_arrays_builder.specs.Fits.{fits_constant, fits_dictionary}
use Rattle.vortex_arrays_builder.specs.TooLarge.{AreTooLarge}
use Rattle.vortex_arrays_dictionary.specs.Distinct.{distinct}
use Rattle.vortex_arrays_dictionary.specs.Dictionary.{IsDictionaryOf}
use Rattle.vortex_table_schema.specs.declared.layout.Layout as hint
use Rattle.vortex_table_schema.specs.declared.layout.Layout.TheVariants.{Plain, Dictionary, Constant}
use Rattle.vortex_table_layout.specs.Hinted.{hint_at, IsConstant}

-- b is a constant where one fits, and else a
abbrev pub IsConstantOr : Bool → Layout → Layout → Type 0
IsConstantOr true a b = IsConstant b
IsConstantOr false a b = b ≡ a

-- b is a dictionary of a's rows where one fits, unless its values are too large, and else a
abbrev pub IsDictionaryOr : Bool → Layout → Layout → Type 0
IsDictionaryOr true a b =
    IsDictionaryOf (rows_of a) b
    ⊎ (AreTooLarge (array_type_of a) (distinct (rows_of a)) × (b ≡ a))
IsDictionaryOr false a b = b ≡ a

-- b is the column a laid out by the hint where that fits, and else a
abbrev pub IsHinted : hint.Layout → Layout → Layout → Type 0
IsHinted Plain a b = b ≡ a
IsHinted Dictionary a b = IsDictionaryOr (fits_dictionary (array_type_of a) (rows_of a)) a b
IsHinted Constant a b = IsConstantOr (fits_constant (rows_of a)) a b

-- each column, of which the first has index i, is laid out by its hint and keeps its name
abbrev pub AreHinted : List hint.Layout → ℕ → Columns → Columns → Type 0
AreHinted hints i no_columns no_columns = Unit {0}
AreHinted hints i (column x a cs) (column y b ds) =
    (y ≡ x) × IsHinted (hint_at hints i) a b × AreHinted hints (suc i) cs ds
AreHinted hints i cs ds = ⊥

-- The columns of a struct array are laid out by the hints. An array of another layout is unchanged.
abbrev pub IsHintedArray : List hint.Layout → Layout → Layout → Type 0
IsHintedArray hints (records cs n v) (records ds m w) =
    (m ≡ n) × (w ≡ v) × AreHinted hints 0 cs ds
IsHintedArray hints (records cs n v) b = ⊥
IsHintedArray hints a b = b ≡ a

-- ---- intermediate results

-- b has the type and the rows of the column a, and is laid out by the hint
pub record IsColumnFrom (h : hint.Layout) (a b : Layout) : Type 0 where
  pub sound : IsSound b
  pub kind : array_type_of b ≡ array_type_of a
  pub rows : rows_of b ≡ rows_of a
  pub layout : IsHinted h a b

-- each column is one from the column at its index, with its name
abbrev pub AreColumnsFrom : List hint.Layout → ℕ → Columns → Columns → Type 0
AreColumnsFrom hints i no_columns no_columns = Unit {0}
AreColumnsFrom hints i (column x a cs) (column y b ds) =
    (y ≡ x) × IsColumnFrom (hint_at hints i) a b × AreColumnsFrom hints (suc i) cs ds
AreColumnsFrom hints i cs ds = ⊥

-- each column of the struct array is, and it has the same rows and validity
abbrev pub IsArrayFrom : List hint.Layout → Layout → Layout → Type 0
IsArrayFrom hints (records cs n v) (records ds m w) =
    (m ≡ n) × (w ≡ v) × AreColumnsFrom hints 0 cs ds
IsArrayFrom hints (records cs n v) b = ⊥
IsArrayFrom hints a b = b ≡ a
