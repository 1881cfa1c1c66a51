-- Which raw values and which contents a type has.
use Rattle.std.specs.Prelude.{◌≡◌, ℕ, ℤ, pos, negsuc, ◌≤ℤ◌, List, Bool, true, false, ◌&&◌, ◌==◌, int_le, IsUtf8, ◌<◌, nat_lt, IsTrue, [], ◌∷◌}
use Rattle.std.specs.List.{AllByRecursion}
use Rattle.std.specs.Str.{is_utf8}
use Rattle.vortex_model.specs.LogicalType.{LogicalType, boolean_type, integer_type, utf8, binary, list, fixed_list, mapping, struct, union, variant, Fields, no_fields, field, stored, has_tag, type_tagged, IsNullable, is_nullable, nullability_of, IntKind, u8, u16, u32, u64, i8, i16, i32, i64, eq_int_kind}
use Rattle.vortex_model.specs.Content.{Content, null, boolean, integer, text, byte_string, tuple, tagged, scalar, Contents, nothing, first, count, Raw, raw_null, raw_boolean, raw_number, raw_text, raw_byte_string, raw_tuple, raw_tagged, raw_scalar, Raws, no_raws, raw_first, raw_count}

-- the least and the greatest integer of a type
abbrev pub least_number : IntKind → ℤ
least_number u8 = pos 0
least_number u16 = pos 0
least_number u32 = pos 0
least_number u64 = pos 0
least_number i8 = negsuc 127
least_number i16 = negsuc 32767
least_number i32 = negsuc 2147483647
least_number i64 = negsuc 9223372036854775807

abbrev pub greatest_number : IntKind → ℤ
greatest_number u8 = pos 255
greatest_number u16 = pos 65535
greatest_number u32 = pos 4294967295
greatest_number u64 = pos 18446744073709551615
greatest_number i8 = pos 127
greatest_number i16 = pos 32767
greatest_number i32 = pos 2147483647
greatest_number i64 = pos 9223372036854775807

-- the integer type holds z
pub record InRange (i : IntKind) (z : ℤ) : Type 0 where
  pub from : least_number i ≤ℤ z
  pub to : z ≤ℤ greatest_number i

-- `InRange` as a test
abbrev pub in_range : IntKind → ℤ → Bool
in_range i z = int_le (least_number i) z && int_le z (greatest_number i)

-- each number is a byte
abbrev pub AreBytes : List ℕ → Type 0
AreBytes bs = AllByRecursion (λ b. b < 256) bs

abbrev pub are_bytes : List ℕ → Bool
are_bytes [] = true
are_bytes (b ∷ bs) = nat_lt b 256 && are_bytes bs

-- The raw value is one of the type, which is not an extension.
abbrev mutual
  pub Has : LogicalType → Raw → Type 0
  Has k raw_null = IsNullable (nullability_of k)
  Has (boolean_type n) (raw_boolean b) = Unit {0}
  Has (integer_type i n) (raw_number j z) = (j ≡ i) × InRange i z
  Has (utf8 n) (raw_text bs) = IsUtf8 bs
  Has (binary n) (raw_byte_string bs) = AreBytes bs
  Has (list k n) (raw_tuple rs) = AllHave k rs
  Has (fixed_list k m n) (raw_tuple rs) = (raw_count rs ≡ m) × AllHave k rs
  Has (mapping k v s n) (raw_tuple rs) = EntriesHave k v rs
  Has (struct fs n) (raw_tuple rs) = FieldsHave fs rs
  Has (union vs n) (raw_tagged t r) = IsTrue (has_tag vs t) × Has (stored (type_tagged vs t)) r
  Has (variant n) (raw_scalar k r) = Has (stored k) r
  Has k r = ⊥

  pub AllHave : LogicalType → Raws → Type 0
  AllHave k no_raws = Unit {0}
  AllHave k (raw_first r rs) = Has (stored k) r × AllHave k rs

  -- pairs of a key and a value
  pub EntriesHave : LogicalType → LogicalType → Raws → Type 0
  EntriesHave k v no_raws = Unit {0}
  EntriesHave k v (raw_first (raw_tuple (raw_first a (raw_first b no_raws))) rs) =
      Has (stored k) a × Has (stored v) b × EntriesHave k v rs
  EntriesHave k v rs = ⊥

  -- one value for each field
  pub FieldsHave : Fields → Raws → Type 0
  FieldsHave no_fields no_raws = Unit {0}
  FieldsHave (field x k fs) (raw_first r rs) = Has (stored k) r × FieldsHave fs rs
  FieldsHave fs rs = ⊥

-- the raw value is one of the type, or of its storage type
abbrev pub IsValid : LogicalType → Raw → Type 0
IsValid k r = Has (stored k) r

-- `Has` as a test
abbrev mutual
  pub has : LogicalType → Raw → Bool
  has k raw_null = is_nullable (nullability_of k)
  has (boolean_type n) (raw_boolean b) = true
  has (integer_type i n) (raw_number j z) = eq_int_kind j i && in_range i z
  has (utf8 n) (raw_text bs) = is_utf8 bs
  has (binary n) (raw_byte_string bs) = are_bytes bs
  has (list k n) (raw_tuple rs) = all_have k rs
  has (fixed_list k m n) (raw_tuple rs) = (raw_count rs == m) && all_have k rs
  has (mapping k v s n) (raw_tuple rs) = entries_have k v rs
  has (struct fs n) (raw_tuple rs) = fields_have fs rs
  has (union vs n) (raw_tagged t r) = has_tag vs t && has (stored (type_tagged vs t)) r
  has (variant n) (raw_scalar k r) = has (stored k) r
  has k r = false

  pub all_have : LogicalType → Raws → Bool
  all_have k no_raws = true
  all_have k (raw_first r rs) = has (stored k) r && all_have k rs

  pub entries_have : LogicalType → LogicalType → Raws → Bool
  entries_have k v no_raws = true
  entries_have k v (raw_first (raw_tuple (raw_first a (raw_first b no_raws))) rs) =
      has (stored k) a && has (stored v) b && entries_have k v rs
  entries_have k v rs = false

  pub fields_have : Fields → Raws → Bool
  fields_have no_fields no_raws = true
  fields_have (field x k fs) (raw_first r rs) = has (stored k) r && fields_have fs rs
  fields_have fs rs = false

abbrev pub valid : LogicalType → Raw → Bool
valid k r = has (stored k) r

-- The content is one of the type.
abbrev mutual
  pub Holds : LogicalType → Content → Type 0
  Holds k null = IsNullable (nullability_of k)
  Holds (boolean_type n) (boolean b) = Unit {0}
  Holds (integer_type i n) (integer z) = InRange i z
  Holds (utf8 n) (text bs) = IsUtf8 bs
  Holds (binary n) (byte_string bs) = AreBytes bs
  Holds (list k n) (tuple cs) = AllHold k cs
  Holds (fixed_list k m n) (tuple cs) = (count cs ≡ m) × AllHold k cs
  Holds (mapping k v s n) (tuple cs) = EntriesHold k v cs
  Holds (struct fs n) (tuple cs) = FieldsHold fs cs
  Holds (union vs n) (tagged t c) = IsTrue (has_tag vs t) × Holds (stored (type_tagged vs t)) c
  Holds (variant n) (scalar k c) = Holds (stored k) c
  Holds k c = ⊥

  pub AllHold : LogicalType → Contents → Type 0
  AllHold k nothing = Unit {0}
  AllHold k (first c cs) = Holds (stored k) c × AllHold k cs

  pub EntriesHold : LogicalType → LogicalType → Contents → Type 0
  EntriesHold k v nothing = Unit {0}
  EntriesHold k v (first (tuple (first a (first b nothing))) cs) =
      Holds (stored k) a × Holds (stored v) b × EntriesHold k v cs
  EntriesHold k v cs = ⊥

  pub FieldsHold : Fields → Contents → Type 0
  FieldsHold no_fields nothing = Unit {0}
  FieldsHold (field x k fs) (first c cs) = Holds (stored k) c × FieldsHold fs cs
  FieldsHold fs cs = ⊥

abbrev pub IsContent : LogicalType → Content → Type 0
IsContent k c = Holds (stored k) c
