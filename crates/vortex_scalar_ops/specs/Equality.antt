-- Equality of contents, and contents without `Variant` values.
use Rattle.std.specs.Prelude.{Bool, true, false, ◌&&◌, ◌||◌}
use Rattle.std.specs.Ordering.{int_eq}
use Rattle.std.specs.Str.{bytes_eq}
use Rattle.vortex_model.specs.LogicalType.{LogicalType, list, fixed_list, mapping, struct, union, variant, extension, Fields, no_fields, field, Variants, no_variants, choice, eq_flag, equal_ignoring_nullability}
use Rattle.vortex_model.specs.Content.{Content, null, boolean, integer, text, byte_string, tuple, tagged, scalar, Contents, nothing, first}

-- the contents are equal, up to nullability of the types inside `Variant` values
abbrev mutual
  pub eq_content : Content → Content → Bool
  eq_content null null = true
  eq_content (boolean a) (boolean b) = eq_flag a b
  eq_content (integer a) (integer b) = int_eq a b
  eq_content (text a) (text b) = bytes_eq a b
  eq_content (byte_string a) (byte_string b) = bytes_eq a b
  eq_content (tuple cs) (tuple ds) = eq_contents cs ds
  eq_content (tagged t c) (tagged u d) = int_eq t u && eq_content c d
  eq_content (scalar k c) (scalar l d) = equal_ignoring_nullability k l && eq_content c d
  eq_content c d = false

  pub eq_contents : Contents → Contents → Bool
  eq_contents nothing nothing = true
  eq_contents (first c cs) (first d ds) = eq_content c d && eq_contents cs ds
  eq_contents cs ds = false

-- the content is a `Variant` value, or has one inside
abbrev mutual
  pub holds_variant : Content → Bool
  holds_variant (tuple cs) = hold_variants cs
  holds_variant (tagged t c) = holds_variant c
  holds_variant (scalar k c) = true
  holds_variant c = false

  pub hold_variants : Contents → Bool
  hold_variants nothing = false
  hold_variants (first c cs) = holds_variant c || hold_variants cs

-- the type is `Variant`, or has it inside
abbrev mutual
  pub has_variant : LogicalType → Bool
  has_variant (list k n) = has_variant k
  has_variant (fixed_list k m n) = has_variant k
  has_variant (mapping k v s n) = has_variant k || has_variant v
  has_variant (struct fs n) = field_has_variant fs
  has_variant (union vs n) = choice_has_variant vs
  has_variant (variant n) = true
  has_variant (extension id meta k) = has_variant k
  has_variant k = false

  pub field_has_variant : Fields → Bool
  field_has_variant no_fields = false
  field_has_variant (field x k fs) = has_variant k || field_has_variant fs

  pub choice_has_variant : Variants → Bool
  choice_has_variant no_variants = false
  choice_has_variant (choice x t k vs) = has_variant k || choice_has_variant vs
