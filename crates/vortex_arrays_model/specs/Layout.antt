-- The parts of arrays, and the contents that they represent.
use Rattle.std.specs.Prelude.{◌≡◌, ◌<◌, ◌≤◌, ◌+◌, ◌*◌, ℕ, zero, suc, ℤ, pos, negsuc, List, length, Bool, true, false, cond, map, slice_index_or, IsUtf8, IsTrue, []}
use Rattle.std.specs.List.{range_with_len, All}
use Rattle.vortex_model.specs.LogicalType.{LogicalType, boolean_type, integer_type, utf8, binary, list, fixed_list, struct, Fields, no_fields, field, Nullability, non_nullable, nullable, nullability_of, either_nullable, with_nullability, IntKind}
use Rattle.vortex_model.specs.Content.{Content, null, boolean, integer, text, byte_string, tuple, Contents, nothing, first, Raw, content_of}
use Rattle.vortex_model.specs.Valid.{InRange, AreBytes, IsValid}
use Rattle.vortex_arrays_view.specs.Views.{value_of, HasValue}

-- what views of sixteen bytes represent
pub data Strings : Type 0 where
  texts : Strings
  byte_strings : Strings

mutual
  -- Integers have one type. Views come with their buffers, a constant with its type and its length,
  -- a dictionary's codes with its values and whether each value is known to be referenced,
  -- fixed-size lists with their elements, their size and their number, list views with their
  -- elements, offsets, sizes and whether they are known to follow one another.
  pub data Layout : Type 0 where
    bools : List Bool → Valid → Layout
    numbers : IntKind → List ℤ → Valid → Layout
    strings : Strings → List (List ℕ) → List (List ℕ) → Valid → Layout
    constant : LogicalType → Raw → ℕ → Layout
    dictionary : Layout → Layout → Bool → Layout
    fixed_lists : Layout → ℕ → ℕ → Valid → Layout
    list_views : Layout → Layout → Layout → Bool → Valid → Layout
    records : Columns → ℕ → Valid → Layout

  -- which rows are null: none can be, none is, all are, or those where an array of booleans is
  -- false
  pub data Valid : Type 0 where
    required : Valid
    all_valid : Valid
    all_null : Valid
    by_array : Layout → Valid

  -- the fields of a struct array in order, each a name and an array
  pub data Columns : Type 0 where
    no_columns : Columns
    column : List ℕ → Layout → Columns → Columns

-- the number of its parts
abbrev mutual
  pub size_of : Layout → ℕ
  size_of (bools bs v) = valid_size v + 1
  size_of (numbers k zs v) = valid_size v + 1
  size_of (strings s vs bs v) = valid_size v + 1
  size_of (constant k r n) = 1
  size_of (dictionary c v f) = size_of c + size_of v + 1
  size_of (fixed_lists e s n v) = size_of e + valid_size v + 1
  size_of (list_views e o s f v) = size_of e + size_of o + size_of s + valid_size v + 1
  size_of (records cs n v) = columns_size cs + valid_size v + 1

  pub valid_size : Valid → ℕ
  valid_size required = 0
  valid_size all_valid = 0
  valid_size all_null = 0
  valid_size (by_array a) = size_of a

  pub columns_size : Columns → ℕ
  columns_size no_columns = 0
  columns_size (column x a cs) = size_of a + columns_size cs

-- the number of its rows
abbrev pub len_of : Layout → ℕ
len_of (bools bs v) = length bs
len_of (numbers k zs v) = length zs
len_of (strings s vs bs v) = length vs
len_of (constant k r n) = n
len_of (dictionary c v f) = len_of c
len_of (fixed_lists e s n v) = n
len_of (list_views e o s f v) = len_of o
len_of (records cs n v) = n

abbrev pub nullability_by : Valid → Nullability
nullability_by required = non_nullable
nullability_by v = nullable

abbrev pub type_of_strings : Strings → Nullability → LogicalType
type_of_strings texts n = utf8 n
type_of_strings byte_strings n = binary n

-- its type
abbrev mutual
  pub array_type_of : Layout → LogicalType
  array_type_of (bools bs v) = boolean_type (nullability_by v)
  array_type_of (numbers k zs v) = integer_type k (nullability_by v)
  array_type_of (strings s vs bs v) = type_of_strings s (nullability_by v)
  array_type_of (constant k r n) = k
  array_type_of (dictionary c v f) =
      with_nullability (either_nullable (nullability_of (array_type_of c))
      (nullability_of (array_type_of v))) (array_type_of v)
  array_type_of (fixed_lists e s n v) = fixed_list (array_type_of e) s (nullability_by v)
  array_type_of (list_views e o s f v) = list (array_type_of e) (nullability_by v)
  array_type_of (records cs n v) = struct (fields_of cs) (nullability_by v)

  pub fields_of : Columns → Fields
  fields_of no_columns = no_fields
  fields_of (column x a cs) = field x (array_type_of a) (fields_of cs)

-- an integer as a natural number, and 0 for a negative one
abbrev pub natural : ℤ → ℕ
natural (pos n) = n
natural (negsuc n) = 0

abbrev pub number_in : Content → ℕ
number_in (integer z) = natural z
number_in c = 0

abbrev pub is_truth : Content → Bool
is_truth (boolean b) = b
is_truth c = false

-- the content at the index that a code is, and null for null
abbrev pub pick : Content → (ℕ → Content) → Content
pick null f = null
pick c f = f (number_in c)

-- n contents from i on
abbrev pub span : (ℕ → Content) → ℕ → ℕ → Contents
span f i zero = nothing
span f i (suc n) = first (f i) (span f (i + 1) n)

abbrev pub string_content : Strings → List ℕ → Content
string_content texts bs = text bs
string_content byte_strings bs = byte_string bs

-- the content at an index
abbrev mutual
  pub content_at : Layout → ℕ → Content
  content_at (bools bs v) i = cond (is_valid v i) (boolean (slice_index_or bs i false)) null
  content_at (numbers k zs v) i = cond (is_valid v i) (integer (slice_index_or zs i (pos 0))) null
  content_at (strings s vs bs v) i =
      cond (is_valid v i) (string_content s (value_of (slice_index_or vs i []) bs)) null
  content_at (constant k r n) i = content_of r
  content_at (dictionary c v f) i = pick (content_at c i) (λ j. content_at v j)
  content_at (fixed_lists e s n v) i =
      cond (is_valid v i) (tuple (span (λ j. content_at e j) (i * s) s)) null
  content_at (list_views e o s f v) i =
      cond (is_valid v i) (tuple
      (span (λ j. content_at e j) (number_in (content_at o i)) (number_in (content_at s i)))) null
  content_at (records cs n v) i = cond (is_valid v i) (tuple (row_at cs i)) null

  -- the row is not null
  pub is_valid : Valid → ℕ → Bool
  is_valid required i = true
  is_valid all_valid i = true
  is_valid all_null i = false
  is_valid (by_array a) i = is_truth (content_at a i)

  pub row_at : Columns → ℕ → Contents
  row_at no_columns i = nothing
  row_at (column x a cs) i = first (content_at a i) (row_at cs i)

-- the contents that it represents
abbrev pub rows_of : Layout → List Content
rows_of a = map (content_at a) (range_with_len 0 (len_of a))

abbrev pub IsInteger : LogicalType → Type 0
IsInteger (integer_type k n) = Unit {0}
IsInteger k = ⊥

-- offsets and sizes are integers that are never null
abbrev pub IsOffsets : LogicalType → Type 0
IsOffsets (integer_type k non_nullable) = Unit {0}
IsOffsets k = ⊥

-- a code is null, or an integer below n
abbrev pub IsCode : ℕ → Content → Type 0
IsCode n null = Unit {0}
IsCode n (integer (pos i)) = i < n
IsCode n c = ⊥

-- an offset and a size are of a list within n elements
abbrev pub IsView : ℕ → Content → Content → Type 0
IsView n (integer (pos i)) (integer (pos s)) = i + s ≤ n
IsView n o s = ⊥

-- a valid value is UTF-8 where strings are stored, and else bytes
abbrev pub IsString : Strings → List ℕ → Type 0
IsString texts bs = IsUtf8 bs
IsString byte_strings bs = AreBytes bs

-- one of the first n codes is j
pub record IsReferenced (c : Layout) (n j : ℕ) : Type 0 where
  pub row : ℕ
  pub before : row < n
  pub referenced : content_at c row ≡ integer (pos j)

-- each value of a dictionary is referenced
abbrev pub AllReferenced : Layout → Layout → Type 0
AllReferenced c v = (j : ℕ) → j < len_of v → IsReferenced c (len_of c) j

-- each list begins where the one before ends
abbrev pub AreEndToEnd : Layout → Layout → Type 0
AreEndToEnd o s = (i : ℕ) → suc i < len_of o → number_in (content_at o (suc i)) ≡
    number_in (content_at o i) + number_in (content_at s i)

-- The parts fit together, at every level.
abbrev mutual
  pub IsSound : Layout → Type 0
  IsSound (bools bs v) = HasLength v (length bs)
  IsSound (numbers k zs v) = All (InRange k) zs × HasLength v (length zs)
  IsSound (strings s vs bs v) =
      ((i : ℕ) → i < length vs → IsTrue (is_valid v i) → HasValue (slice_index_or vs i []) bs ×
      IsString s (value_of (slice_index_or vs i []) bs)) × HasLength v (length vs)
  IsSound (constant k r n) = IsValid k r
  IsSound (dictionary c v f) = IsSound c × IsSound v × IsInteger (array_type_of c) ×
      ((i : ℕ) → i < len_of c → IsCode (len_of v) (content_at c i)) × (IsTrue f → AllReferenced c v)
  IsSound (fixed_lists e s n v) = IsSound e × (len_of e ≡ n * s) × HasLength v n
  IsSound (list_views e o s f v) = IsSound e × IsSound o × IsSound s × IsOffsets (array_type_of o) ×
      IsOffsets (array_type_of s) × (len_of s ≡ len_of o) × HasLength v (len_of o) ×
      ((i : ℕ) → i < len_of o → IsView (len_of e) (content_at o i) (content_at s i)) ×
      (IsTrue f → AreEndToEnd o s)
  IsSound (records cs n v) = HaveLength cs n × HasLength v n

  -- a validity fits n rows
  pub HasLength : Valid → ℕ → Type 0
  HasLength required n = Unit {0}
  HasLength all_valid n = Unit {0}
  HasLength all_null n = Unit {0}
  HasLength (by_array a) n =
      IsSound a × (len_of a ≡ n) × (array_type_of a ≡ boolean_type non_nullable)

  -- each column is sound and has n rows
  pub HaveLength : Columns → ℕ → Type 0
  HaveLength no_columns n = Unit {0}
  HaveLength (column x a cs) n = IsSound a × (len_of a ≡ n) × HaveLength cs n
