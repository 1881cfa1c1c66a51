-- Types of strings and of bytes.
use Rattle.std.proofs.Common.{◌≡◌, true, false, refl, sym, subst}
use Rattle.vortex_model.specs.LogicalType.{LogicalType, utf8, binary, Nullability, nullability_of}
use Rattle.vortex_dtype_core.specs.Parts.{is_utf8_type, is_binary_type}
use Rattle.vortex_arrays_model.specs.Layout.{Strings, texts, byte_strings, type_of_strings, Valid, nullability_by}
use Rattle.vortex_arrays_leaf.specs.Strings.{IsStringType, strings_in}
use Rattle.vortex_arrays_parts.specs.Values.{HoldsStrings}

pub text_kind : (k : LogicalType) → is_utf8_type k ≡ true → k ≡ type_of_strings texts (nullability_of k)
text_kind (utf8 n) e = refl
text_kind k e = absurd (cc e)

pub bytes_kind : (k : LogicalType) → is_binary_type k ≡ true → k ≡ type_of_strings byte_strings (nullability_of k)
bytes_kind (binary n) e = refl
bytes_kind k e = absurd (cc e)

pub no_kind : (k : LogicalType) → is_utf8_type k ≡ false → is_binary_type k ≡ false → HoldsStrings k → ⊥
no_kind (utf8 n) e f h = cc e
no_kind (binary n) e f h = cc f
no_kind k e f h = h

pub ruleset kinds = (text_kind, bytes_kind, no_kind)

-- the type of a kind of strings
pub holds_strings : (s : Strings) (n : Nullability) → HoldsStrings (type_of_strings s n)
holds_strings texts n = tt
holds_strings byte_strings n = tt

pub holds_kind : (k : LogicalType) (s : Strings) (n : Nullability) → k ≡ type_of_strings s n → HoldsStrings k
holds_kind k s n e = subst HoldsStrings (sym e) (holds_strings s n)

pub nullability_kind : (s : Strings) (n : Nullability) → nullability_of (type_of_strings s n) ≡ n
nullability_kind texts n = refl
nullability_kind byte_strings n = refl

pub strings_kind : (s : Strings) (n : Nullability) → strings_in (type_of_strings s n) ≡ s
strings_kind texts n = refl
strings_kind byte_strings n = refl

pub string_type : (s : Strings) (n : Nullability) (v : Valid) → n ≡ nullability_by v → IsStringType (type_of_strings s n) v
string_type texts n v e = e
string_type byte_strings n v e = e
