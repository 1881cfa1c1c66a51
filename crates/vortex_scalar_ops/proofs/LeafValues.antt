-- Validity and casts of values without values inside.
use Rattle.std.proofs.Math.Bool.{true-and, false-and}
use Rattle.std.proofs.Common.{◌≡◌, ◌&&◌, ℕ, ℤ, List, Bool, true, false, refl, sym, ap, ◌∙◌, Option, Some, None, IsUtf8}
use Rattle.std.proofs.lemmas.Cmp.{nat_eq_equiv}
use Rattle.std.proofs.lemmas.Str.{is_utf8-from_IsUtf8}
use Rattle.std.specs.Cmp.Derive.{both_true}
use Rattle.vortex_model.specs.LogicalType.{LogicalType, IntKind, eq_int_kind, int_kind_number, boolean_type, integer_type, float, utf8, binary, extension}
use Rattle.vortex_model.specs.Content.{boolean, integer, text, byte_string, raw_boolean, raw_number, raw_text, raw_byte_string}
use Rattle.vortex_model.specs.Valid.{has, valid, in_range, AreBytes}
use Rattle.vortex_model.specs.Convert.{converts}
use Rattle.vortex_model.proofs.Passes.{bytes_pass}
use Rattle.vortex_dtype_ptype.specs.Numbers.{NumberKind, integral as of_whole}
use Rattle.vortex_dtype_core.specs.Parts.{is_boolean_type, is_integer_type, is_utf8_type, is_binary_type, numbers_in_type}
use Rattle.vortex_scalar_value.specs.Numbers.{holds_number, is_number_of}
use Rattle.vortex_scalar_ops.specs.Converting.{is_identity_cast}

-- ---- booleans

pub has-boolean : (k : LogicalType) (b : Bool) → has k (raw_boolean b) ≡ is_boolean_type k
has-boolean (boolean_type n) b = refl
has-boolean k b = refl

pub converts-boolean : (s t : LogicalType) (b : Bool) → is_identity_cast s ≡ false → converts s t (boolean b) ≡ is_boolean_type s && is_boolean_type t
converts-boolean (boolean_type n) (boolean_type m) b h = refl
converts-boolean (boolean_type n) t b h = refl
converts-boolean (extension id meta k) t b h = absurd (cc (h))
converts-boolean s t b h = refl

pub valid-boolean : (t : LogicalType) (b : Bool) → is_boolean_type t ≡ true → valid t (raw_boolean b) ≡ true
valid-boolean (boolean_type n) b h = refl
valid-boolean t b h = absurd (cc (h))

pub ruleset truths = (converts-boolean, valid-boolean, true-and, false-and)

-- ---- strings

pub has-text : (k : LogicalType) (bs : List ℕ) → IsUtf8 bs → is_utf8_type k ≡ has k (raw_text bs)
has-text (utf8 n) bs u = sym (is_utf8-from_IsUtf8 bs u)
has-text k bs u = refl

pub converts-text : (s t : LogicalType) (bs : List ℕ) → is_identity_cast s ≡ false → converts s t (text bs) ≡ is_utf8_type s && is_utf8_type t
converts-text (utf8 n) (utf8 m) bs h = refl
converts-text (utf8 n) t bs h = refl
converts-text (extension id meta k) t bs h = absurd (cc (h))
converts-text s t bs h = refl

pub valid-text : (t : LogicalType) (bs : List ℕ) → IsUtf8 bs → is_utf8_type t ≡ true → valid t (raw_text bs) ≡ true
valid-text (utf8 n) bs u h = is_utf8-from_IsUtf8 bs u
valid-text t bs u h = absurd (cc (h))

pub ruleset texts = (converts-text, true-and, false-and)

-- ---- bytes

pub has-byte_string : (k : LogicalType) (bs : List ℕ) → AreBytes bs → is_binary_type k ≡ has k (raw_byte_string bs)
has-byte_string (binary n) bs u = sym (bytes_pass bs u)
has-byte_string k bs u = refl

pub converts-byte_string : (s t : LogicalType) (bs : List ℕ) → is_identity_cast s ≡ false → converts s t (byte_string bs) ≡ is_binary_type s && is_binary_type t
converts-byte_string (binary n) (binary m) bs h = refl
converts-byte_string (binary n) t bs h = refl
converts-byte_string (extension id meta k) t bs h = absurd (cc (h))
converts-byte_string s t bs h = refl

pub valid-byte_string : (t : LogicalType) (bs : List ℕ) → AreBytes bs → is_binary_type t ≡ true → valid t (raw_byte_string bs) ≡ true
valid-byte_string (binary n) bs u h = bytes_pass bs u
valid-byte_string t bs u h = absurd (cc (h))

pub ruleset byte_strings = (converts-byte_string, true-and, false-and)

-- ---- integers

abbrev number_in : Option NumberKind → IntKind → ℤ → Bool
number_in None j z = false
number_in (Some p) j z = is_number_of p j z

pub has-number : (k : LogicalType) (j : IntKind) (z : ℤ) → has k (raw_number j z) ≡ number_in (numbers_in_type k) j z
has-number (integer_type i n) j z = refl
has-number (float f n) j z = refl
has-number k j z = refl

pub ruleset numbers = (has-number, true-and, false-and)

abbrev pub holds_in : Option NumberKind → ℤ → Bool
holds_in None z = false
holds_in (Some p) z = holds_number p z

pub converts-integer : (s t : LogicalType) (z : ℤ) → is_identity_cast s ≡ false → converts s t (integer z) ≡ is_integer_type s && holds_in (numbers_in_type t) z
converts-integer (integer_type i n) (integer_type j m) z h = refl
converts-integer (integer_type i n) (float f m) z h = refl
converts-integer (integer_type i n) t z h = refl
converts-integer (extension id meta k) t z h = absurd (cc (h))
converts-integer s t z h = refl

pub valid-integer : (t : LogicalType) (j : IntKind) (z : ℤ) (p : NumberKind) → numbers_in_type t ≡ Some p → of_whole j ≡ p → holds_number p z ≡ true → valid t (raw_number j z) ≡ true
valid-integer (integer_type i n) j z p e k h =
    let same : j ≡ i = cc (e, k) in
    let kind : of_whole i ≡ p = cc (e) in
    let held : in_range i z ≡ true = ap (λ q. holds_number q z) kind ∙ h in
    both_true (ap (λ l. eq_int_kind l i) same ∙ nat_eq_equiv.refl (int_kind_number i)) held
valid-integer (float f n) j z p e k h = absurd (cc (e, k))
valid-integer t j z p e k h = absurd (cc (e))

pub ruleset integers = (converts-integer, valid-integer, true-and, false-and)
