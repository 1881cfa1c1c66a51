-- Logical types, as finite trees.
use Rattle.std.specs.Prelude.{◌≡◌, ℕ, ℤ, List, Bool, true, false, ◌&&◌, ◌||◌, ◌==◌, if◌then◌else◌}
use Rattle.std.specs.Str.{bytes_eq}
use Rattle.std.specs.Ordering.{int_eq}

-- whether null is a value of the type
pub data Nullability : Type 0 where
  non_nullable : Nullability
  nullable : Nullability

-- the eight integer types
pub data IntKind : Type 0 where
  u8 u16 u32 u64 i8 i16 i32 i64 : IntKind

-- The three float types. No float value is modelled.
pub data FloatKind : Type 0 where
  f16 f32 f64 : FloatKind

-- A name is its bytes. A map has a key type, a value type, and whether its keys are sorted. An
-- extension has an id, metadata and a storage type.
mutual
  pub data LogicalType : Type 0 where
    null_only : LogicalType
    boolean_type : Nullability → LogicalType
    integer_type : IntKind → Nullability → LogicalType
    float : FloatKind → Nullability → LogicalType
    decimal : ℕ → ℤ → Nullability → LogicalType
    utf8 : Nullability → LogicalType
    binary : Nullability → LogicalType
    list : LogicalType → Nullability → LogicalType
    fixed_list : LogicalType → ℕ → Nullability → LogicalType
    mapping : LogicalType → LogicalType → Bool → Nullability → LogicalType
    struct : Fields → Nullability → LogicalType
    union : Variants → Nullability → LogicalType
    variant : Nullability → LogicalType
    extension : List ℕ → List ℕ → LogicalType → LogicalType

  -- a struct's fields in order, each a name and a type
  pub data Fields : Type 0 where
    no_fields : Fields
    field : List ℕ → LogicalType → Fields → Fields

  -- a union's variants, each a name, a tag and a type
  pub data Variants : Type 0 where
    no_variants : Variants
    choice : List ℕ → ℤ → LogicalType → Variants → Variants

-- nullable, if one of the two is
abbrev pub either_nullable : Nullability → Nullability → Nullability
either_nullable non_nullable n = n
either_nullable nullable n = nullable

abbrev pub is_nullable : Nullability → Bool
is_nullable non_nullable = false
is_nullable nullable = true

-- null's own type is nullable, and an extension is where its storage is
abbrev pub nullability_of : LogicalType → Nullability
nullability_of null_only = nullable
nullability_of (boolean_type n) = n
nullability_of (integer_type i n) = n
nullability_of (float f n) = n
nullability_of (decimal p s n) = n
nullability_of (utf8 n) = n
nullability_of (binary n) = n
nullability_of (list k n) = n
nullability_of (fixed_list k m n) = n
nullability_of (mapping k v s n) = n
nullability_of (struct fs n) = n
nullability_of (union vs n) = n
nullability_of (variant n) = n
nullability_of (extension id meta k) = nullability_of k

-- null is a value
abbrev pub IsNullable : Nullability → Type 0
IsNullable non_nullable = ⊥
IsNullable nullable = Unit {0}

-- the type with another outer nullability
abbrev pub with_nullability : Nullability → LogicalType → LogicalType
with_nullability n null_only = null_only
with_nullability n (boolean_type m) = boolean_type n
with_nullability n (integer_type i m) = integer_type i n
with_nullability n (float f m) = float f n
with_nullability n (decimal p s m) = decimal p s n
with_nullability n (utf8 m) = utf8 n
with_nullability n (binary m) = binary n
with_nullability n (list k m) = list k n
with_nullability n (fixed_list k j m) = fixed_list k j n
with_nullability n (mapping k v s m) = mapping k v s n
with_nullability n (struct fs m) = struct fs n
with_nullability n (union vs m) = union vs n
with_nullability n (variant m) = variant n
with_nullability n (extension id meta k) = extension id meta (with_nullability n k)

-- the type of a field, nullable also where the struct around it is
abbrev pub nullable_inside : Nullability → LogicalType → LogicalType
nullable_inside non_nullable k = k
nullable_inside nullable k = with_nullability nullable k

-- tests for equality
abbrev pub eq_nullability : Nullability → Nullability → Bool
eq_nullability non_nullable non_nullable = true
eq_nullability nullable nullable = true
eq_nullability n m = false

abbrev pub eq_flag : Bool → Bool → Bool
eq_flag true b = b
eq_flag false true = false
eq_flag false false = true

-- numbers that distinguish the integer types
abbrev pub int_kind_number : IntKind → ℕ
int_kind_number u8 = 0
int_kind_number u16 = 1
int_kind_number u32 = 2
int_kind_number u64 = 3
int_kind_number i8 = 4
int_kind_number i16 = 5
int_kind_number i32 = 6
int_kind_number i64 = 7

abbrev pub eq_int_kind : IntKind → IntKind → Bool
eq_int_kind i j = int_kind_number i == int_kind_number j

abbrev pub float_kind_number : FloatKind → ℕ
float_kind_number f16 = 0
float_kind_number f32 = 1
float_kind_number f64 = 2

-- the types are equal
abbrev mutual
  pub eq_type : LogicalType → LogicalType → Bool
  eq_type null_only null_only = true
  eq_type (boolean_type n) (boolean_type m) = eq_nullability n m
  eq_type (integer_type i n) (integer_type j m) = eq_int_kind i j && eq_nullability n m
  eq_type (float f n) (float g m) =
      (float_kind_number f == float_kind_number g) && eq_nullability n m
  eq_type (decimal p s n) (decimal q t m) = (p == q) && int_eq s t && eq_nullability n m
  eq_type (utf8 n) (utf8 m) = eq_nullability n m
  eq_type (binary n) (binary m) = eq_nullability n m
  eq_type (list k n) (list l m) = eq_type k l && eq_nullability n m
  eq_type (fixed_list k i n) (fixed_list l j m) = eq_type k l && (i == j) && eq_nullability n m
  eq_type (mapping k v s n) (mapping l w t m) =
      eq_type k l && eq_type v w && eq_flag s t && eq_nullability n m
  eq_type (struct fs n) (struct gs m) = eq_fields fs gs && eq_nullability n m
  eq_type (union vs n) (union ws m) = eq_variants vs ws && eq_nullability n m
  eq_type (variant n) (variant m) = eq_nullability n m
  eq_type (extension x a k) (extension y b l) = bytes_eq x y && bytes_eq a b && eq_type k l
  eq_type k l = false

  pub eq_fields : Fields → Fields → Bool
  eq_fields no_fields no_fields = true
  eq_fields (field x k fs) (field y l gs) = bytes_eq x y && eq_type k l && eq_fields fs gs
  eq_fields fs gs = false

  pub eq_variants : Variants → Variants → Bool
  eq_variants no_variants no_variants = true
  eq_variants (choice x t k vs) (choice y u l ws) =
      bytes_eq x y && int_eq t u && eq_type k l && eq_variants vs ws
  eq_variants vs ws = false

-- the type with its nullability removed at every level
abbrev mutual
  pub bare : LogicalType → LogicalType
  bare null_only = null_only
  bare (boolean_type n) = boolean_type non_nullable
  bare (integer_type i n) = integer_type i non_nullable
  bare (float f n) = float f non_nullable
  bare (decimal p s n) = decimal p s non_nullable
  bare (utf8 n) = utf8 non_nullable
  bare (binary n) = binary non_nullable
  bare (list k n) = list (bare k) non_nullable
  bare (fixed_list k m n) = fixed_list (bare k) m non_nullable
  bare (mapping k v s n) = mapping (bare k) (bare v) s non_nullable
  bare (struct fs n) = struct (bare_fields fs) non_nullable
  bare (union vs n) = union (bare_variants vs) non_nullable
  bare (variant n) = variant non_nullable
  bare (extension id meta k) = extension id meta (bare k)

  pub bare_fields : Fields → Fields
  bare_fields no_fields = no_fields
  bare_fields (field x k fs) = field x (bare k) (bare_fields fs)

  pub bare_variants : Variants → Variants
  bare_variants no_variants = no_variants
  bare_variants (choice x t k vs) = choice x t (bare k) (bare_variants vs)

-- equal up to nullability at every level
abbrev pub EqualIgnoringNullability : LogicalType → LogicalType → Type 0
EqualIgnoringNullability k l = bare k ≡ bare l

abbrev pub equal_ignoring_nullability : LogicalType → LogicalType → Bool
equal_ignoring_nullability k l = eq_type (bare k) (bare l)

-- the type itself, or the storage type under one or more extensions
abbrev pub stored : LogicalType → LogicalType
stored (extension id meta k) = stored k
stored k = k

-- whether a union has a variant with this tag, and the type of that variant
abbrev pub has_tag : Variants → ℤ → Bool
has_tag no_variants t = false
has_tag (choice x u k vs) t = int_eq u t || has_tag vs t

abbrev pub type_tagged : Variants → ℤ → LogicalType
type_tagged no_variants t = null_only
type_tagged (choice x u k vs) t = if int_eq u t then k else type_tagged vs t
