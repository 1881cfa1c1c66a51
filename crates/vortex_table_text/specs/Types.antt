-- Which types have JSON text, and how deep they nest.
use Rattle.std.specs.Prelude.{ℕ, zero, suc, ◌^◌, nat_lt, List, ◌∷◌, Bool, true, false, ◌&&◌, Option, [], IsUtf8}
use Rattle.vortex_model.specs.LogicalType.{LogicalType, boolean_type, integer_type, utf8, binary, list, fixed_list, struct, Fields, no_fields, field}
use Rattle.vortex_table_response.specs.type_texts.Text.{type_text}
use Rattle.vortex_table_text.specs.Writing.{text_if}

-- Booleans, integers, strings, bytes, and lists and structs of types with JSON text. A fixed size
-- has 32 bits.
abbrev mutual
  pub has_text : LogicalType → Bool
  has_text (boolean_type n) = true
  has_text (integer_type i n) = true
  has_text (utf8 n) = true
  has_text (binary n) = true
  has_text (list k n) = has_text k
  has_text (fixed_list k m n) = nat_lt m (2 ^ 32) && has_text k
  has_text (struct fs n) = have_texts fs
  has_text k = false

  pub have_texts : Fields → Bool
  have_texts no_fields = true
  have_texts (field x k fs) = has_text k && have_texts fs

abbrev pub all_have_texts : List LogicalType → Bool
all_have_texts [] = true
all_have_texts (k ∷ ks) = has_text k && all_have_texts ks

-- the JSON text of a type, if it has one
abbrev pub type_text_of : LogicalType → Option (List ℕ)
type_text_of k = text_if (has_text k) (type_text k)

-- no more than this many lists and structs nest in one another
abbrev mutual
  pub nests_within : LogicalType → ℕ → Bool
  nests_within (list k n) zero = false
  nests_within (list k n) (suc depth) = nests_within k depth
  nests_within (fixed_list k m n) zero = false
  nests_within (fixed_list k m n) (suc depth) = nests_within k depth
  nests_within (struct fs n) zero = false
  nests_within (struct fs n) (suc depth) = fields_nest_within fs depth
  nests_within k depth = true

  pub fields_nest_within : Fields → ℕ → Bool
  fields_nest_within no_fields depth = true
  fields_nest_within (field x k fs) depth = nests_within k depth && fields_nest_within fs depth

-- the names of fields in lists and structs are UTF-8
abbrev mutual
  pub HasUtf8Names : LogicalType → Type 0
  HasUtf8Names (list k n) = HasUtf8Names k
  HasUtf8Names (fixed_list k m n) = HasUtf8Names k
  HasUtf8Names (struct fs n) = HaveUtf8Names fs
  HasUtf8Names k = Unit {0}

  pub HaveUtf8Names : Fields → Type 0
  HaveUtf8Names no_fields = Unit {0}
  HaveUtf8Names (field x k fs) = IsUtf8 x × HasUtf8Names k × HaveUtf8Names fs
