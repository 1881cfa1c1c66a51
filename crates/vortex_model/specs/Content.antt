-- The content of a value: what it is apart from its type.
use Rattle.std.specs.Prelude.{ℕ, zero, suc, ℤ, List, [], ◌∷◌, Bool, true, false, ◌&&◌}
use Rattle.std.specs.Str.{bytes_eq}
use Rattle.std.specs.Ordering.{int_eq}
use Rattle.vortex_model.specs.LogicalType.{LogicalType, IntKind, eq_type, eq_flag}

-- A string is its UTF-8 bytes. `tagged` is a union's value with its tag, and `scalar` a `Variant`
-- value: a type, and a value of it.
mutual
  pub data Content : Type 0 where
    null : Content
    boolean : Bool → Content
    integer : ℤ → Content
    text : List ℕ → Content
    byte_string : List ℕ → Content
    tuple : Contents → Content
    tagged : ℤ → Content → Content
    scalar : LogicalType → Content → Content

  pub data Contents : Type 0 where
    nothing : Contents
    first : Content → Contents → Contents

-- A raw value is a content with an integer type at each integer.
mutual
  pub data Raw : Type 0 where
    raw_null : Raw
    raw_boolean : Bool → Raw
    raw_number : IntKind → ℤ → Raw
    raw_text : List ℕ → Raw
    raw_byte_string : List ℕ → Raw
    raw_tuple : Raws → Raw
    raw_tagged : ℤ → Raw → Raw
    raw_scalar : LogicalType → Raw → Raw

  pub data Raws : Type 0 where
    no_raws : Raws
    raw_first : Raw → Raws → Raws

-- the content of a raw value: the integer types dropped
abbrev mutual
  pub content_of : Raw → Content
  content_of raw_null = null
  content_of (raw_boolean b) = boolean b
  content_of (raw_number i z) = integer z
  content_of (raw_text bs) = text bs
  content_of (raw_byte_string bs) = byte_string bs
  content_of (raw_tuple rs) = tuple (contents_of rs)
  content_of (raw_tagged t r) = tagged t (content_of r)
  content_of (raw_scalar k r) = scalar k (content_of r)

  pub contents_of : Raws → Contents
  contents_of no_raws = nothing
  contents_of (raw_first r rs) = first (content_of r) (contents_of rs)

-- the length
abbrev pub count : Contents → ℕ
count nothing = 0
count (first c cs) = suc (count cs)

abbrev pub raw_count : Raws → ℕ
raw_count no_raws = 0
raw_count (raw_first r rs) = suc (raw_count rs)

-- the content at an index, and null past the end
abbrev pub nth : Contents → ℕ → Content
nth nothing i = null
nth (first c cs) zero = c
nth (first c cs) (suc i) = nth cs i

-- a list as `Contents`
abbrev pub contents_from : List Content → Contents
contents_from [] = nothing
contents_from (c ∷ cs) = first c (contents_from cs)

abbrev pub is_null : Content → Bool
is_null null = true
is_null c = false

-- The contents are equal, and so are the types inside `Variant` values.
abbrev mutual
  pub equal_content : Content → Content → Bool
  equal_content null null = true
  equal_content (boolean a) (boolean b) = eq_flag a b
  equal_content (integer a) (integer b) = int_eq a b
  equal_content (text a) (text b) = bytes_eq a b
  equal_content (byte_string a) (byte_string b) = bytes_eq a b
  equal_content (tuple cs) (tuple ds) = equal_contents cs ds
  equal_content (tagged t c) (tagged u d) = int_eq t u && equal_content c d
  equal_content (scalar k c) (scalar l d) = eq_type k l && equal_content c d
  equal_content c d = false

  pub equal_contents : Contents → Contents → Bool
  equal_contents nothing nothing = true
  equal_contents (first c cs) (first d ds) = equal_content c d && equal_contents cs ds
  equal_contents cs ds = false
