-- Properties of validities.
use Rattle.std.specs.Prelude.{◌≡◌, ◌≢◌, ◌<◌, ◌⊎◌, ℕ, List, map, flat_map, sum, Option, Some, None, Bool, true, false, not}
use Rattle.std.specs.List.{range_with_len}
use Rattle.vortex_model.specs.LogicalType.{Nullability, nullable, non_nullable, boolean_type, either_nullable}
use Rattle.vortex_model.specs.Content.{boolean}
use Rattle.vortex_arrays_view.specs.declared.error.ArrayError.{ArrayError}
use Rattle.vortex_arrays_view.specs.declared.error.ArrayError.TheVariants.{Memory, OutOfRange, LengthMismatch, NullInNonNullable, WrongType}
use Rattle.vortex_arrays_model.specs.Layout.{Layout, Valid, required, all_valid, all_null, by_array, bools, len_of, array_type_of, nullability_by, content_at, is_valid, IsSound, HasLength}
use Rattle.vortex_arrays_model.specs.Picks.{position_of}
use Rattle.vortex_arrays_model.specs.Parts.{AreWithin}
use Rattle.vortex_arrays_core.specs.Picking.{IsUnsigned}
use Rattle.vortex_arrays_core.specs.Faults.{IsValidityFault}

-- for each of n rows, whether it is not null
abbrev pub valid_rows : Valid → ℕ → List Bool
valid_rows v n = map (is_valid v) (range_with_len 0 n)

-- known without reading an array: no row is null
abbrev pub shows_no_null : Valid → Bool
shows_no_null required = true
shows_no_null all_valid = true
shows_no_null all_null = false
shows_no_null (by_array a) = false

-- known without reading an array: each row is null
abbrev pub shows_all_null : Valid → Bool
shows_all_null all_null = true
shows_all_null v = false

-- the array of the validity, if it has one
abbrev pub array_in : Valid → Option Layout
array_in (by_array a) = Some a
array_in v = None

-- none of n rows is null
abbrev pub NoneNull : Valid → ℕ → Type 0
NoneNull v n = (i : ℕ) → i < n → is_valid v i ≡ true

-- an array of n booleans, true where a row is not null
pub record IsMaskArray (v : Valid) (n : ℕ) (a : Layout) : Type 0 where
  pub sound : IsSound a
  pub len : len_of a ≡ n
  pub kind : array_type_of a ≡ boolean_type non_nullable
  pub content : (i : ℕ) → i < n → content_at a i ≡ boolean (is_valid v i)

-- w has this nullability, and of n rows those are null that are null in v
pub record IsRecast (v w : Valid) (m : Nullability) (n : ℕ) : Type 0 where
  pub fits : HasLength w n
  pub nullability : nullability_by w ≡ m
  pub rows : (i : ℕ) → i < n → is_valid w i ≡ is_valid v i

-- Of n rows, those are null in w that are not null in v. Without null, none is in either.
pub record IsInverse (v w : Valid) (n : ℕ) : Type 0 where
  pub fits : HasLength w n
  pub nullability : nullability_by w ≡ nullability_by v
  pub rows : nullability_by v ≡ nullable → (i : ℕ) → i < n → is_valid w i ≡ not (is_valid v i)

-- the validity's array, if it has one, is of packed bits without null
abbrev pub IsByBits : Valid → Type 0
IsByBits (by_array (bools bits v)) = v ≡ required
IsByBits (by_array a) = ⊥
IsByBits v = Unit {0}

-- Some row is null, and the target type has no null. A cast allocates nothing.
abbrev pub IsCastFault : ArrayError → Valid → Nullability → ℕ → Type 0
IsCastFault NullInNonNullable v m n = (m ≡ non_nullable) × (¬ NoneNull v n)
IsCastFault e v m n = ⊥

-- ---- rows overwritten

-- of the first n indices, index number k is the last that is row j
pub record IsLastPlace (places : Layout) (n j k : ℕ) : Type 0 where
  pub within : k < n
  pub names : position_of (content_at places k) ≡ Some j
  pub last : (l : ℕ) → k < l → l < n → position_of (content_at places l) ≢ Some j

-- none of the first n indices is row j
abbrev pub NoPlace : Layout → ℕ → ℕ → Type 0
NoPlace places n j = (k : ℕ) → k < n → position_of (content_at places k) ≢ Some j

-- Of n rows, each that is among the indices is null where q is at the last index that is this row,
-- and the others are null where they are in v.
pub record IsPatched (v q : Valid) (places : Layout) (w : Valid) (n : ℕ) : Type 0 where
  pub fits : HasLength w n
  pub nullability : nullability_by w ≡ either_nullable (nullability_by v) (nullability_by q)
  pub kept : (j : ℕ) → j < n → NoPlace places (len_of places) j → is_valid w j ≡ is_valid v j
  pub patched : (j k : ℕ) → j < n → IsLastPlace places (len_of places) j k →
      is_valid w j ≡ is_valid q k

-- The indices are unsigned integers, each null or below n, and q has a row for each index.
pub record CanPatch (n : ℕ) (places : Layout) (q : Valid) : Type 0 where
  pub unsigned : IsUnsigned (array_type_of places)
  pub within : AreWithin places n
  pub fits : HasLength q (len_of places)

-- the indices or the array of the patches have another type
abbrev pub IsPatchTypeFault : Layout → Valid → Type 0
IsPatchTypeFault places q = (¬ IsUnsigned (array_type_of places)) ⊎
    IsValidityFault WrongType q (len_of places)

-- The types go first, then the indices.
abbrev pub IsPatchFault : ArrayError → ℕ → Layout → Valid → Type 0
IsPatchFault Memory n places q = Unit {0}
IsPatchFault WrongType n places q = IsPatchTypeFault places q
IsPatchFault OutOfRange n places q = (¬ IsPatchTypeFault places q) × (¬ AreWithin places n)
IsPatchFault LengthMismatch n places q = (¬ IsPatchTypeFault places q) × AreWithin places n ×
    IsValidityFault LengthMismatch q (len_of places)
IsPatchFault e n places q = ⊥

-- ---- rows end to end

-- the rows of validities of several lengths, one after another
abbrev pub rows_of_all : List (Valid × ℕ) → List Bool
rows_of_all parts = flat_map (λ part. valid_rows part.0 part.1) parts

abbrev pub lengths_of_all : List (Valid × ℕ) → ℕ
lengths_of_all parts = sum (map (λ part. part.1) parts)
