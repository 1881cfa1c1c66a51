-- Columns of one type end to end.
use Rattle.std.specs.Prelude.{◌≡◌, ◌<◌, ◌+◌, ◌⊎◌, ℕ, ℤ, List, [], ◌∷◌, Bool, length, map, slice_index_or, All}
use Rattle.vortex_model.specs.LogicalType.{LogicalType, IntKind}
use Rattle.vortex_arrays_model.specs.Layout.{Layout, bools, numbers, required, len_of, array_type_of, rows_of, IsSound}
use Rattle.vortex_arrays_model.specs.Parts.{valid_in}
use Rattle.vortex_arrays_struct.specs.Records.{AreRecords, columns_in, arrays_in}
use Rattle.vortex_arrays_builder.specs.Types.{IsPlainLayout}
use Rattle.vortex_arrays_concat.specs.EndToEnd.{Part, rows_of_arrays, rows_in_all}

-- row p of the arrays, one array after another, is row i of a
abbrev pub IsAt : List Layout → ℕ → Layout → ℕ → Type 0
IsAt [] p a i = ⊥
IsAt (b ∷ bs) p a i = ((a ≡ b) × (p ≡ i) × (i < len_of b)) ⊎
    ((q : ℕ) × (p ≡ len_of b + q) × IsAt bs q a i)

-- the validity of each array, and its number of rows
abbrev pub validities : List Layout → List Part
validities arrays = map (λ a. (valid_in a, len_of a)) arrays

-- its integers, or its booleans, also in null rows
abbrev pub numbers_in : Layout → List ℤ
numbers_in (numbers k zs v) = zs
numbers_in a = []

abbrev pub bits_in : Layout → List Bool
bits_in (bools bs v) = bs
bits_in a = []

-- it is an array of integers of this type
abbrev pub AreNumbers : IntKind → Layout → Type 0
AreNumbers k (numbers j zs v) = j ≡ k
AreNumbers k a = ⊥

-- it is an array of booleans
abbrev pub AreBools : Layout → Type 0
AreBools (bools bs v) = Unit {0}
AreBools a = ⊥

-- r has the rows of the arrays, one array after another, in a plain layout of the type k
pub record IsColumn (k : LogicalType) (arrays : List Layout) (r : Layout) : Type 0 where
  pub kind : array_type_of r ≡ k
  pub rows : rows_of r ≡ rows_of_arrays arrays
  pub plain : IsPlainLayout r

-- it has as many rows, and they are the arrays' rows where these are of one type
pub record IsJoined (arrays : List Layout) (r : Layout) : Type 0 where
  pub count : len_of r ≡ rows_in_all arrays
  pub column : (k : LogicalType) → All (λ a. array_type_of a ≡ k) arrays → IsColumn k arrays r

-- ---- fields

-- the array of a field of a struct array, and an empty one past the end
abbrev pub field_at : ℕ → Layout → Layout
field_at i a = slice_index_or (arrays_in (columns_in a)) i (bools [] required)

abbrev pub fields_at : ℕ → List Layout → List Layout
fields_at i arrays = map (field_at i) arrays

-- it is a struct array with the field
pub record HasField (i : ℕ) (a : Layout) : Type 0 where
  pub sound : IsSound a
  pub records : AreRecords a
  pub within : i < length (arrays_in (columns_in a))

abbrev pub HaveField : List Layout → ℕ → Type 0
HaveField arrays i = All (HasField i) arrays

-- the columns are the first n fields of the arrays, one array after another
pub record AreFields (arrays : List Layout) (n : ℕ) (columns : List Layout) : Type 0 where
  pub count : length columns ≡ n
  pub there : (i : ℕ) → i < n → HaveField arrays i
  pub sound : (i : ℕ) (d : Layout) → i < n → IsSound (slice_index_or columns i d)
  pub joined : (i : ℕ) (d : Layout) → i < n → IsJoined (fields_at i arrays) (slice_index_or columns i d)
