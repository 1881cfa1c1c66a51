-- Columns by name: selected, added, removed and masked.
use Rattle.std.specs.Prelude.{◌≡◌, ◌≢◌, ℕ, List, map, Any, Bool, cond, Option, Some, None, option_and_then, if◌then◌else◌, MatchOption}
use Rattle.std.specs.Str.{bytes_eq}
use Rattle.vortex_model.specs.Path.{position_named}
use Rattle.vortex_arrays_view.specs.declared.error.ArrayError.{ArrayError}
use Rattle.vortex_arrays_view.specs.declared.error.ArrayError.TheVariants.{Memory, LengthMismatch, NoSuchField}
use Rattle.vortex_arrays_model.specs.Layout.{Layout, records, Valid, required, all_valid, Columns, no_columns, column, len_of, fields_of}
use Rattle.vortex_arrays_model.specs.Column.{array_at, IsMasked}
use Rattle.vortex_arrays_model.specs.Parts.{columns_of}
use Rattle.vortex_arrays_core.specs.Flags.{flags_of}
use Rattle.vortex_arrays_struct.specs.Records.{columns_in, validity_in}

-- the array of the first column with a name
abbrev pub array_named : Columns → List ℕ → Option Layout
array_named cs x = option_and_then (array_at cs) (position_named (fields_of cs) x)

-- r has columns with these names in order, each with the array of that name in a
pub record IsProjection (a : Layout) (xs : List (List ℕ)) (r : Layout) : Type 0 where
  pub arrays : List Layout
  pub found : map Some arrays ≡ map (array_named (columns_in a)) xs
  pub made : r ≡ records (columns_of xs arrays) (len_of a) (validity_in a)

-- memory ran out, or a name is that of no column
abbrev pub IsNameFault : ArrayError → Columns → List (List ℕ) → Type 0
IsNameFault Memory cs xs = Unit {0}
IsNameFault NoSuchField cs xs = Any (λ x. array_named cs x ≡ None) xs
IsNameFault e cs xs = ⊥

-- the columns, and one more at the end
abbrev pub with_last : Columns → List ℕ → Layout → Columns
with_last no_columns x a = column x a no_columns
with_last (column y b cs) x a = column y b (with_last cs x a)

-- memory ran out, or an array has another number of rows
abbrev pub IsColumnLengthFault : ArrayError → Layout → Layout → Type 0
IsColumnLengthFault Memory a b = Unit {0}
IsColumnLengthFault LengthMismatch a b = len_of b ≢ len_of a
IsColumnLengthFault e a b = ⊥

-- the columns without the first one with a name
abbrev pub without_named : Columns → List ℕ → Columns
without_named no_columns x = no_columns
without_named (column y a cs) x =
    if bytes_eq y x then cs else column y a (without_named cs x)

-- a without its first column with a name, and the array of that column; nothing where no column has
-- the name
abbrev pub IsRemoved : Layout → List ℕ → Option (Layout × Layout) → Type 0
IsRemoved a x o = MatchOption o
    (array_named (columns_in a) x ≡ None)
    (λ p. (p.0 ≡ records (without_named (columns_in a) x) (len_of a) (validity_in a)) ×
    (array_named (columns_in a) x ≡ Some p.1))

-- r is b with the rows null that are null in v, and with the flags of b's list views
abbrev pub IsPushedInto : Valid → Layout → Layout → Type 0
IsPushedInto v b r = IsMasked v b r × (flags_of r ≡ flags_of b)

-- the same columns, each null also where v is
abbrev pub AreMasked : Valid → Columns → Columns → Type 0
AreMasked v no_columns ds = ds ≡ no_columns
AreMasked v (column x a cs) no_columns = ⊥
AreMasked v (column x a cs) (column y b ds) = (y ≡ x) × IsPushedInto v a b × AreMasked v cs ds

-- the validity of the same nullability in which no row is null
abbrev pub without_nulls : Valid → Valid
without_nulls required = required
without_nulls v = all_valid

-- r has the nulls of a in its columns, and itself the nulls of a or none
pub record IsPushed (a : Layout) (remove : Bool) (r : Layout) : Type 0 where
  pub columns : Columns
  pub masked : AreMasked (validity_in a) (columns_in a) columns
  pub made : r ≡ records columns (len_of a)
      (cond remove (without_nulls (validity_in a)) (validity_in a))
