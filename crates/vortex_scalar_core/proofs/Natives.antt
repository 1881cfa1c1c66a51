-- Native values of scalars.
use Rattle.std.proofs.Common.{IsUtf8, rules, ◌≡◌, ℤ, Bool, true, false, List, ℕ, Option, Some, None, option_map, if◌then◌else◌, refl, ap, ◌∙◌}
use Rattle.std.proofs.lemmas.Str.{is_utf8-from_IsUtf8}
use Rattle.vortex_model.specs.LogicalType.{LogicalType, IntKind, boolean_type, utf8, binary}
use Rattle.vortex_model.specs.Content.{Raw, raw_null, raw_boolean, raw_number, raw_text, raw_byte_string, raw_tuple, raw_tagged, raw_scalar, content_of, is_null}
use Rattle.vortex_model.specs.Valid.{valid, are_bytes}
use Rattle.vortex_dtype_ptype.specs.View.{nullability_of_flag}
use Rattle.vortex_dtype_ptype.specs.declared.nullability.Nullability as outer
use Rattle.vortex_dtype_core.specs.View.{type_of}
use Rattle.vortex_dtype_core.specs.declared.dtype.DType as type
use Rattle.vortex_dtype_core.proofs.Views as types
use Rattle.vortex_dtype_core.specs.Parts.{is_boolean_type, is_utf8_type, is_binary_type}
use Rattle.vortex_scalar_value.specs.Parts.{boolean_in, text_in, byte_string_in, has_whole, whole_number_in}
use Rattle.vortex_scalar_value.specs.View.{raw_of}
use Rattle.vortex_scalar_value.specs.declared.scalar_value.ScalarValue as value
use Rattle.vortex_scalar_value.proofs.Views as values
use Rattle.vortex_scalar_value.proofs.Views.{raw_of-Utf8, raw_of-Binary}
use Rattle.vortex_scalar_value.proofs.Nulls.{never_null}
use Rattle.vortex_scalar_core.specs.Native.{or_null, whole_within, read_of}
use Rattle.vortex_scalar_core.specs.Scalar.{scalar_type, scalar_raw}
use Rattle.vortex_scalar_core.specs.declared.scalar.Scalar.{Scalar}

pub truth_or_null : (k : LogicalType) (r : Raw) → is_boolean_type k ≡ true → valid k r ≡ true → or_null boolean_in r ≡ Some (boolean_in r)
truth_or_null k raw_null h v = refl
truth_or_null k (raw_boolean b) h v = refl
truth_or_null (boolean_type n) r h v = absurd (cc (v))
truth_or_null k r h v = absurd (cc (h))

pub ruleset truths = (never_null, truth_or_null)

pub text_or_null : (k : LogicalType) (r : Raw) → is_utf8_type k ≡ true → valid k r ≡ true → or_null text_in r ≡ Some (text_in r)
text_or_null k raw_null h v = refl
text_or_null k (raw_text b) h v = refl
text_or_null (utf8 n) r h v = absurd (cc (v))
text_or_null k r h v = absurd (cc (h))

pub ruleset texts = (never_null, text_or_null)

pub byte_string_or_null : (k : LogicalType) (r : Raw) → is_binary_type k ≡ true → valid k r ≡ true → or_null byte_string_in r ≡ Some (byte_string_in r)
byte_string_or_null k raw_null h v = refl
byte_string_or_null k (raw_byte_string b) h v = refl
byte_string_or_null (binary n) r h v = absurd (cc (v))
byte_string_or_null k r h v = absurd (cc (h))

pub ruleset bytes = (never_null, byte_string_or_null)

-- an integer in range, and one out of range
pub number_read : (i : IntKind) (r : Raw) (z : ℤ) → has_whole i r ≡ true → whole_number_in r ≡ Some z → or_null (whole_within i) r ≡ Some (Some z)
number_read i (raw_number j y) z h e = ap (λ b. option_map (λ a. Some a) (if b then Some y else None)) h ∙ ap (λ o. Some o) e
number_read i r z h e = absurd (cc (h))

pub number_refused : (i : IntKind) (r : Raw) → is_null (content_of r) ≡ false → has_whole i r ≡ false → or_null (whole_within i) r ≡ None
number_refused i raw_null n h = absurd (cc (n))
number_refused i (raw_number j y) n h = ap (λ b. option_map (λ a. Some a) (if b then Some y else None)) h
number_refused i (raw_boolean b) n h = refl
number_refused i (raw_text b) n h = refl
number_refused i (raw_byte_string b) n h = refl
number_refused i (raw_tuple b) n h = refl
number_refused i (raw_tagged t b) n h = refl
number_refused i (raw_scalar k b) n h = refl

pub ruleset numbers = (never_null, number_read, number_refused)

-- ---- where null isn't read

inside : {A : Type 0} → (o : Option A) (a : A) → option_map (λ x. Some x) o ≡ Some (Some a) → o ≡ Some a
inside None a e = absurd (cc (e))
inside (Some x) a e = cc (e)

inside_none : {A : Type 0} → (o : Option A) → option_map (λ x. Some x) o ≡ None → o ≡ None
inside_none None e = refl
inside_none (Some x) e = absurd (cc (e))

none_inside : {A : Type 0} → (o : Option A) → option_map (λ x. Some x) o ≡ Some None → ⊥
none_inside None e = absurd (cc (e))
none_inside (Some x) e = absurd (cc (e))

there_if : {A : Type 0} → (read : Raw → Option A) (b : Bool) (r : Raw) (a : A) → (if b then or_null read r else None) ≡ Some (Some a) → (if b then read r else None) ≡ Some a
there_if read false r a e = absurd (cc (e))
there_if read true raw_null a e = absurd (cc (e))
there_if read true r a e = inside (read r) a e

null_if : {A : Type 0} → (read : Raw → Option A) (b : Bool) (r : Raw) → read raw_null ≡ None → (if b then or_null read r else None) ≡ Some None → (if b then read r else None) ≡ None
null_if read false r h e = refl
null_if read true raw_null h e = h
null_if read true r h e = absurd (none_inside (read r) e)

none_if : {A : Type 0} → (read : Raw → Option A) (b : Bool) (r : Raw) → (if b then or_null read r else None) ≡ None → (if b then read r else None) ≡ None
none_if read false r e = refl
none_if read true raw_null e = absurd (cc (e))
none_if read true r e = inside_none (read r) e

pub is_there : {A : Type 0} → (is_kind : LogicalType → Bool) (read : Raw → Option A) (s : Scalar) (a : A) → read_of is_kind (or_null read) s ≡ Some (Some a) → read_of is_kind read s ≡ Some a
is_there is_kind read s a e = there_if read (is_kind (scalar_type s)) (scalar_raw s) a e

pub is_null_there : {A : Type 0} → (is_kind : LogicalType → Bool) (read : Raw → Option A) (s : Scalar) → read raw_null ≡ None → read_of is_kind (or_null read) s ≡ Some None → read_of is_kind read s ≡ None
is_null_there is_kind read s h e = null_if read (is_kind (scalar_type s)) (scalar_raw s) h e

pub is_not_there : {A : Type 0} → (is_kind : LogicalType → Bool) (read : Raw → Option A) (s : Scalar) → read_of is_kind (or_null read) s ≡ None → read_of is_kind read s ≡ None
is_not_there is_kind read s e = none_if read (is_kind (scalar_type s)) (scalar_raw s) e

pub ruleset present = (is_there, is_null_there, is_not_there)

-- ---- scalars from native values

-- a string is valid for its type, and bytes are for theirs
pub text_valid : (n : outer.Nullability) (t : List ℕ) → IsUtf8 t → valid (type_of (type.Utf8 n)) (raw_of (value.Utf8 t)) ≡ true
text_valid n t u =
    let k : type_of (type.Utf8 n) ≡ utf8 (nullability_of_flag n) = search (rules, type.the_lemmas) in
    (λ i. valid (k i) (raw_of-Utf8 t i)) ∙ is_utf8-from_IsUtf8 t u

pub bytes_valid : (n : outer.Nullability) (b : List ℕ) → are_bytes b ≡ true → valid (type_of (type.Binary n)) (raw_of (value.Binary b)) ≡ true
bytes_valid n b u =
    let k : type_of (type.Binary n) ≡ binary (nullability_of_flag n) = search (rules, type.the_lemmas) in
    (λ i. valid (k i) (raw_of-Binary b i)) ∙ u

pub ruleset leaves = (types.one_level, values.one_level)
