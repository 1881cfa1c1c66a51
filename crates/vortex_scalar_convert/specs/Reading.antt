-- Native values read from scalars. An integer is read whatever its own type.
use Rattle.std.specs.Prelude.{◌≡◌, ◌≢◌, map, Bool, true, false, ◌&&◌, Option, Some, None, Result, IfOk, IfErr, Vec}
use Rattle.std.specs.declared.alloc.Global.{Global}
use Rattle.vortex_model.specs.LogicalType.{LogicalType, IntKind}
use Rattle.vortex_model.specs.Content.{Content, null, boolean, integer, text, byte_string, tuple, Contents, nothing, first, contents_from}
use Rattle.vortex_model.specs.Valid.{in_range}
use Rattle.vortex_dtype_core.specs.Parts.{is_boolean_type, is_primitive_type, is_utf8_type, is_binary_type}
use Rattle.vortex_scalar_value.specs.declared.error.ScalarError.{ScalarError}
use Rattle.vortex_scalar_value.specs.declared.error.ScalarError.TheVariants.{Memory, Invalid}

-- the content has this form
abbrev pub is_boolean_content : Content → Bool
is_boolean_content (boolean b) = true
is_boolean_content c = false

abbrev pub is_whole_of : IntKind → Content → Bool
is_whole_of i (integer z) = in_range i z
is_whole_of i c = false

abbrev pub is_text : Content → Bool
is_text (text bs) = true
is_text c = false

abbrev pub is_byte_string : Content → Bool
is_byte_string (byte_string bs) = true
is_byte_string c = false

-- a content of the type can be read
abbrev pub reads_boolean : LogicalType → Content → Bool
reads_boolean k c = is_boolean_type k && is_boolean_content c

abbrev pub reads_number : IntKind → LogicalType → Content → Bool
reads_number i k c = is_primitive_type k && is_whole_of i c

abbrev pub reads_text : LogicalType → Content → Bool
reads_text k c = is_utf8_type k && is_text c

abbrev pub reads_bytes : LogicalType → Content → Bool
reads_bytes k c = is_binary_type k && is_byte_string c

-- each element of a list can be read
abbrev pub all_read : (LogicalType → Content → Bool) → LogicalType → Contents → Bool
all_read reads k nothing = true
all_read reads k (first c cs) = reads k c && all_read reads k cs

abbrev pub reads_list : (LogicalType → Content → Bool) → Option LogicalType → Content → Bool
reads_list reads (Some k) (tuple cs) = all_read reads k cs
reads_list reads o c = false

-- the content of an optional value, null for `None`
abbrev pub says_or_null : {A : Type 0} → (A → Content) → Option A → Content
says_or_null says None = null
says_or_null says (Some a) = says a

-- The value read has the content c, which can be read; `Invalid` means that it can't be. Nothing is
-- allocated.
abbrev pub IsFound : {A : Type 0} → (A → Content) → Bool → Content → Result A ScalarError → Type 0
IsFound says reads c r =
    (IfOk r (λ a. (reads ≡ true) × (says a ≡ c))) × (IfErr r (λ e. (e ≡ Invalid) × (reads ≡ false)))

-- `IsFound` of a call that allocates
abbrev pub IsRead : {A : Type 0} → (A → Content) → Bool → Content → Result A ScalarError → Type 0
IsRead says reads c r = (IfOk r (λ a. (reads ≡ true) × (says a ≡ c))) ×
    (IfErr r (λ e. e ≢ Memory → (e ≡ Invalid) × (reads ≡ false)))

-- `IsRead` of several values
abbrev pub AreRead : {A : Type 0} → (A → Content) → Bool → Contents →
    Result (Vec A Global) ScalarError → Type 0
AreRead says reads cs r =
    (IfOk r (λ all. (reads ≡ true) × (contents_from (map says all.items) ≡ cs))) ×
    (IfErr r (λ e. e ≢ Memory → (e ≡ Invalid) × (reads ≡ false)))
