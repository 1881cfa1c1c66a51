-- Valid values of types without parts.
use Rattle.std.proofs.Common.{◌≡◌, ℕ, List, Bool, true, Option, Some, None, refl}
use Rattle.vortex_model.specs.LogicalType.{LogicalType, boolean_type, utf8, binary}
use Rattle.vortex_model.specs.Content.{Raw, raw_null, raw_boolean, raw_text, raw_byte_string}
use Rattle.vortex_model.specs.Valid.{valid}
use Rattle.vortex_dtype_core.specs.Parts.{is_boolean_type, is_utf8_type, is_binary_type}
use Rattle.vortex_scalar_value.specs.Parts.{boolean_in, text_in, byte_string_in}
use Rattle.vortex_scalar_value.proofs.Views as values
use Rattle.vortex_scalar_ops.proofs.LeafValues.{valid-boolean}
use Rattle.vortex_scalar_views.specs.Forms.{raw_of_boolean, raw_of_text, raw_of_bytes}

-- ---- booleans

pub truth_held : (k : LogicalType) (r : Raw) → is_boolean_type k ≡ true → valid k r ≡ true → raw_of_boolean (boolean_in r) ≡ r
truth_held (boolean_type n) raw_null h v = refl
truth_held (boolean_type n) (raw_boolean b) h v = refl
truth_held (boolean_type n) r h v = absurd (cc (v))
truth_held k r h v = absurd (cc (h))

pub boolean_in-raw_of_boolean : (o : Option Bool) → boolean_in (raw_of_boolean o) ≡ o
boolean_in-raw_of_boolean None = refl
boolean_in-raw_of_boolean (Some b) = refl

pub ruleset truths = (values.one_level, truth_held, boolean_in-raw_of_boolean, valid-boolean)

-- ---- strings

pub text_held : (k : LogicalType) (r : Raw) → is_utf8_type k ≡ true → valid k r ≡ true → raw_of_text (text_in r) ≡ r
text_held (utf8 n) raw_null h v = refl
text_held (utf8 n) (raw_text b) h v = refl
text_held (utf8 n) r h v = absurd (cc (v))
text_held k r h v = absurd (cc (h))

pub text_in-raw_of_text : (o : Option (List ℕ)) → text_in (raw_of_text o) ≡ o
text_in-raw_of_text None = refl
text_in-raw_of_text (Some b) = refl

pub ruleset texts = (values.one_level, text_held, text_in-raw_of_text)

-- ---- bytes

pub byte_string_held : (k : LogicalType) (r : Raw) → is_binary_type k ≡ true → valid k r ≡ true → raw_of_bytes (byte_string_in r) ≡ r
byte_string_held (binary n) raw_null h v = refl
byte_string_held (binary n) (raw_byte_string b) h v = refl
byte_string_held (binary n) r h v = absurd (cc (v))
byte_string_held k r h v = absurd (cc (h))

pub byte_string_in-raw_of_bytes : (o : Option (List ℕ)) → byte_string_in (raw_of_bytes o) ≡ o
byte_string_in-raw_of_bytes None = refl
byte_string_in-raw_of_bytes (Some b) = refl

pub ruleset bytes = (values.one_level, byte_string_held, byte_string_in-raw_of_bytes)
