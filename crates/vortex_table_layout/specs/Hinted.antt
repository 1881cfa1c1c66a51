-- Columns laid out by hints.
use Rattle.std.specs.Prelude.{◌⊎◌, ℕ, suc, List, Bool, true, false, slice_index_or}
use Rattle.vortex_model.specs.LogicalType.{LogicalType}
use Rattle.vortex_model.specs.Content.{Content}
use Rattle.vortex_arrays_model.specs.Layout.{Layout, constant, records, Columns, no_columns, column, array_type_of, rows_of}
use Rattle.vortex_arrays_builder.specs.Fits.{fits_constant, fits_dictionary}
use Rattle.vortex_arrays_builder.specs.TooLarge.{AreTooLarge}
pub use Rattle.vortex_arrays_builder.specs.Types.{IsPlainLayout}
use Rattle.vortex_arrays_dictionary.specs.Distinct.{distinct}
use Rattle.vortex_arrays_dictionary.specs.Dictionary.{IsDictionaryOf}
use Rattle.vortex_table_schema.specs.declared.layout.Layout as hint
use Rattle.vortex_table_schema.specs.declared.layout.Layout.TheVariants.{Plain, Dictionary, Constant}

abbrev pub IsConstant : Layout → Type 0
IsConstant (constant k r n) = Unit {0}
IsConstant a = ⊥

-- a constant where one fits, and else plain
abbrev pub IsConstantWhere : Bool → Layout → Type 0
IsConstantWhere true a = IsConstant a
IsConstantWhere false a = IsPlainLayout a

-- a dictionary where one fits, unless its values are too large, and else plain
abbrev pub IsDictionaryWhere : Bool → LogicalType → List Content → Layout → Type 0
IsDictionaryWhere true k rows a =
    IsDictionaryOf rows a ⊎ (AreTooLarge k (distinct rows) × IsPlainLayout a)
IsDictionaryWhere false k rows a = IsPlainLayout a

-- A column with these rows is laid out by the hint where that fits, and else plain.
abbrev pub IsLaidOutBy : hint.Layout → List Content → Layout → Type 0
IsLaidOutBy Plain rows a = IsPlainLayout a
IsLaidOutBy Dictionary rows a =
    IsDictionaryWhere (fits_dictionary (array_type_of a) rows) (array_type_of a) rows a
IsLaidOutBy Constant rows a = IsConstantWhere (fits_constant rows) a

-- the hint of a column, plain where there is none
abbrev pub hint_at : List hint.Layout → ℕ → hint.Layout
hint_at hints i = slice_index_or hints i Plain

-- Each column, of which the first has index i, is laid out by its hint.
abbrev pub AreLaidOutBy : List hint.Layout → ℕ → Columns → Type 0
AreLaidOutBy hints i no_columns = Unit {0}
AreLaidOutBy hints i (column x a cs) =
    IsLaidOutBy (hint_at hints i) (rows_of a) a × AreLaidOutBy hints (suc i) cs

-- the struct array has a column for each field, laid out by its hint
abbrev pub HasHintedColumns : List hint.Layout → Layout → Type 0
HasHintedColumns hints (records cs n v) = AreLaidOutBy hints 0 cs
HasHintedColumns hints a = ⊥
