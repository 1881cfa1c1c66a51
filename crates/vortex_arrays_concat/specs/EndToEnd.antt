-- Rows of arrays, and of validities, end to end.
use Rattle.std.specs.Prelude.{◌≡◌, ◌<◌, ◌≤◌, ◌^◌, ◌⊎◌, ℕ, List, [], ◌∷◌, length, map, flat_map, sum, true, All}
use Rattle.std.specs.List.{list_all}
use Rattle.vortex_model.specs.LogicalType.{LogicalType, Nullability, non_nullable, either_nullable}
use Rattle.vortex_model.specs.Content.{Content}
use Rattle.vortex_dtype_core.specs.Parts.{is_struct_type}
use Rattle.vortex_arrays_view.specs.declared.error.ArrayError.{ArrayError}
use Rattle.vortex_arrays_view.specs.declared.error.ArrayError.TheVariants as error
use Rattle.vortex_arrays_model.specs.Layout.{Layout, Valid, len_of, array_type_of, rows_of, nullability_by, HasLength}
use Rattle.vortex_arrays_core.specs.LayoutOf.{valid_of}
use Rattle.vortex_arrays_core.specs.declared.array.Validity.{Validity}
use Rattle.vortex_arrays_validity.specs.Validities.{valid_rows, rows_of_all, lengths_of_all, shows_no_null, shows_all_null}
use Rattle.vortex_arrays_builder.specs.TooLarge.{AreTooLarge}
use Rattle.vortex_arrays_builder.specs.Types.{HasPlain}

-- ---- validities

-- a validity and its number of rows
abbrev pub Part : Type 0
Part = Valid × ℕ

abbrev pub parts_of : List (Validity × ℕ) → List Part
parts_of parts = map (λ part. (valid_of part.0, part.1)) parts

-- each validity has its number of rows
abbrev pub HaveLengths : List Part → Type 0
HaveLengths parts = All (λ part. HasLength part.0 part.1) parts

-- nullable where one of them is
abbrev pub nullability_of_all : List Part → Nullability
nullability_of_all [] = non_nullable
nullability_of_all (part ∷ parts) =
    either_nullable (nullability_by part.0) (nullability_of_all parts)

-- v has the rows of the parts, one part after another. It shows without reading an array that no
-- row is null, or that each is, where all parts do.
pub record IsEndToEnd (parts : List Part) (v : Valid) : Type 0 where
  pub fits : HasLength v (lengths_of_all parts)
  pub nullability : nullability_by v ≡ nullability_of_all parts
  pub rows : valid_rows v (lengths_of_all parts) ≡ rows_of_all parts
  pub no_null : list_all (λ part. shows_no_null part.0) parts ≡ true → shows_no_null v ≡ true
  pub all_null : 0 < length parts → list_all (λ part. shows_all_null part.0) parts ≡ true →
      shows_all_null v ≡ true

-- memory ran out, or there are 2^64 rows or more
abbrev pub IsEndToEndFault : ArrayError → List Part → Type 0
IsEndToEndFault error.Memory parts = Unit {0}
IsEndToEndFault error.Total parts = 2 ^ 64 ≤ lengths_of_all parts
IsEndToEndFault e parts = ⊥

-- ---- struct arrays

abbrev pub rows_of_arrays : List Layout → List Content
rows_of_arrays arrays = flat_map rows_of arrays

abbrev pub rows_in_all : List Layout → ℕ
rows_in_all arrays = sum (map len_of arrays)

-- There is an array, and all are of the type k, which is a struct type with a plain layout.
pub record AreOfType (arrays : List Layout) (k : LogicalType) : Type 0 where
  pub some : 0 < length arrays
  pub kinds : All (λ a. array_type_of a ≡ k) arrays
  pub records : is_struct_type k ≡ true
  pub plain : HasPlain k

-- r has the rows of the arrays, one array after another, and their type
pub record IsConcatenation (arrays : List Layout) (r : Layout) : Type 0 where
  pub kinds : AreOfType arrays (array_type_of r)
  pub rows : rows_of r ≡ rows_of_arrays arrays

-- The types go first. There are 2^64 rows or more, or too large ones.
abbrev pub IsConcatFault : ArrayError → List Layout → Type 0
IsConcatFault error.Memory arrays = Unit {0}
IsConcatFault error.WrongType arrays = (k : LogicalType) → ¬ AreOfType arrays k
IsConcatFault error.Total arrays = (k : LogicalType) × AreOfType arrays k ×
    ((2 ^ 64 ≤ rows_in_all arrays) ⊎ AreTooLarge k (rows_of_arrays arrays))
IsConcatFault e arrays = ⊥
