-- Integers in bytes that are end to end.
use Rattle.std.specs.Prelude.{◌≡◌, ◌<◌, ◌*◌, ◌⊎◌, ℕ, zero, suc, ℤ, pos, List, length, take, drop, cond, true, false, slice_index_or, IsTrue}
use Rattle.vortex_model.specs.LogicalType.{IntKind}
use Rattle.vortex_dtype_ptype.specs.Numbers.{NumberKind, integral, is_integral, HasByteWidth}
use Rattle.vortex_dtype_native.specs.NativeBytes.{AreBytesOf}
use Rattle.vortex_arrays_view.specs.declared.error.ArrayError.{ArrayError}
use Rattle.vortex_arrays_view.specs.declared.error.ArrayError.TheVariants as error
use Rattle.vortex_arrays_model.specs.Layout.{Layout, numbers, Valid, required, is_valid, HasLength}
use Rattle.vortex_arrays_core.specs.Faults.{IsValidityFault}

-- the number of the first n rows that are not null
abbrev pub valid_before : Valid → ℕ → ℕ
valid_before v zero = 0
valid_before v (suc n) = cond (is_valid v n) (suc (valid_before v n)) (valid_before v n)

-- The bytes of the integers of rows that are not null are end to end, w for each integer; null rows
-- have 0.
pub record StandInBytes (i : IntKind) (w : ℕ) (v : Valid) (bytes : List ℕ) (zs : List ℤ) : Type 0
  where
    pub valid : (n : ℕ) → n < length zs → is_valid v n ≡ true →
        AreBytesOf i (slice_index_or zs n (pos 0)) (take w (drop (valid_before v n * w) bytes))
    pub null : (n : ℕ) → n < length zs → is_valid v n ≡ false → slice_index_or zs n (pos 0) ≡ pos 0

-- bytes of n integers of the type
abbrev pub HoldIntegers : NumberKind → List ℕ → ℕ → Type 0
HoldIntegers k bytes n = (w : ℕ) → HasByteWidth k w → length bytes ≡ n * w

-- a has n integers of the type and these nulls. The rows that are valid in `read` have the bytes,
-- in order, and the others are 0.
pub record IsOfBytes (k : NumberKind) (bytes : List ℕ) (read v : Valid) (n : ℕ) (a : Layout) : Type
    0 where
  pub kind : IntKind
  pub integers : List ℤ
  pub made : a ≡ numbers kind integers v
  pub same_kind : integral kind ≡ k
  pub many : length integers ≡ n
  pub whole : HoldIntegers k bytes (valid_before read n)
  pub values : (w : ℕ) → HasByteWidth k w → StandInBytes kind w read bytes integers

-- The type is no integer type, or the validity's array does not have the type of booleans without
-- null.
abbrev pub IsTypeFault : NumberKind → Valid → Type 0
IsTypeFault k v = (¬ IsTrue (is_integral k)) ⊎ IsValidityFault error.WrongType v 0

-- The validity has n rows, and the bytes are those of the rows that are valid in `read`.
abbrev pub FitBytes : NumberKind → List ℕ → Valid → Valid → ℕ → Type 0
FitBytes k bytes read v n = HoldIntegers k bytes (valid_before read n) × HasLength v n

-- The types go first. Each row has its bytes, whose length gives the number of rows.
abbrev pub IsBytesFault : ArrayError → NumberKind → List ℕ → Valid → Type 0
IsBytesFault error.Memory k bytes v = Unit {0}
IsBytesFault error.WrongType k bytes v = IsTypeFault k v
IsBytesFault error.LengthMismatch k bytes v =
    (¬ IsTypeFault k v) × ((n : ℕ) → ¬ FitBytes k bytes required v n)
IsBytesFault e k bytes v = ⊥

-- Of n rows, those that are not null have their bytes.
abbrev pub IsValueBytesFault : ArrayError → NumberKind → List ℕ → Valid → ℕ → Type 0
IsValueBytesFault error.Memory k bytes v n = Unit {0}
IsValueBytesFault error.WrongType k bytes v n = IsTypeFault k v
IsValueBytesFault error.LengthMismatch k bytes v n =
    (¬ IsTypeFault k v) × (¬ FitBytes k bytes v v n)
IsValueBytesFault e k bytes v n = ⊥
