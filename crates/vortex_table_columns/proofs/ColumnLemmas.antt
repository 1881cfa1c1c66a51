-- Columns of leaves.
use Rattle.std.proofs.Common.{◌≡◌, ℤ, Bool, true, List, [], ◌∷◌, ◌++◌, map, Option, Some, None, if◌then◌else◌, ap, ◌∙◌}
use Rattle.std.proofs.lemmas.List.{map-append}
use Rattle.vortex_model.specs.LogicalType.{IntKind, Nullability, integer_type}
use Rattle.vortex_model.specs.Content.{Raw, raw_number}
use Rattle.vortex_model.specs.Valid.{in_range}
use Rattle.vortex_dtype_ptype.specs.Numbers.{NumberKind, integral, type_of_numbers}
use Rattle.vortex_dtype_ptype.specs.View.{nullability_of_flag}
use Rattle.vortex_dtype_ptype.specs.declared.nullability.Nullability as flag
use Rattle.vortex_table_columns.specs.Cells.{cell_raw}
use Rattle.vortex_table_columns.specs.Columns.{column_type, number_cell, Takes}
use Rattle.vortex_table_columns.specs.Numbers.{kind_in, integers_in, IsPushed}
use Rattle.vortex_table_columns.specs.declared.column.ColumnBuilder.TheVariants.{Integers}
use Rattle.vortex_table_columns.specs.declared.numbers.NumberCells.{NumberCells}

-- one more cell at the end
pub taken_more : {A : Type 0} (f : A → Raw) (old new : List (Option A)) (c : Option A) → new ≡ old ++ c ∷ [] → map (cell_raw f) new ≡ map (cell_raw f) old ++ cell_raw f c ∷ []
taken_more f old new c e = ap (map (cell_raw f)) e ∙ map-append (cell_raw f) old (c ∷ [])

-- an integer within the type is a cell
number_fits : (k : IntKind) (n : Nullability) (z : ℤ) → in_range k z ≡ true → number_cell (integer_type k n) z ≡ Some (raw_number k z)
number_fits k n z e = ap (λ (b : Bool). if b then Some (raw_number k z) else None) e

-- one more integer or null
pub number_taken : (n : flag.Nullability) (old new : NumberCells) (cell : Option ℤ) → IsPushed old cell new → Takes (Integers n old) (cell_raw (raw_number (kind_in old)) cell) (Integers n new)
number_taken n old new cell h = record {
  kind = ap (λ k. integer_type k (nullability_of_flag n)) h.0;
  cells = ap (λ k. map (cell_raw (raw_number k)) (integers_in new)) h.0 ∙ taken_more (raw_number (kind_in old)) (integers_in old) (integers_in new) cell h.1.pushed;
}

-- one more integer
pub integer_taken : (n : flag.Nullability) (old new : NumberCells) (z : ℤ) → IsPushed old (Some z) new → (cell : Raw) × (number_cell (column_type (Integers n old)) z ≡ Some cell) × Takes (Integers n old) cell (Integers n new)
integer_taken n old new z h = (raw_number (kind_in old) z, number_fits (kind_in old) (nullability_of_flag n) z h.1.held, number_taken n old new (Some z) h)

pub typed : (n : Nullability) (k : IntKind) (p : NumberKind) → integral k ≡ p → integer_type k n ≡ type_of_numbers p n
typed n k p e = ap (λ q. type_of_numbers q n) e

pub none_yet : (k : IntKind) (cells : List (Option ℤ)) → cells ≡ [] → map (cell_raw (raw_number k)) cells ≡ []
none_yet k cells e = ap (map (cell_raw (raw_number k))) e

pub ruleset taken = (taken_more)
