-- The parts of a raw value of one form, and none of another.
use Rattle.std.specs.Prelude.{◌≡◌, ℤ, pos, List, ℕ, zero, suc, Bool, false, Option, Some, None, Result, is_ok, IfOk, IfErr}
use Rattle.vortex_model.specs.LogicalType.{LogicalType, IntKind, null_only}
use Rattle.vortex_model.specs.Content.{Raw, raw_null, raw_boolean, raw_number, raw_text, raw_byte_string, raw_tuple, raw_tagged, raw_scalar, Raws, no_raws, raw_first}
use Rattle.vortex_model.specs.Valid.{in_range}
use Rattle.vortex_scalar_value.specs.declared.error.ScalarError.{ScalarError}
use Rattle.vortex_scalar_value.specs.declared.error.ScalarError.TheVariants.{Invalid}

abbrev pub boolean_in : Raw → Option Bool
boolean_in (raw_boolean b) = Some b
boolean_in r = None

abbrev pub text_in : Raw → Option (List ℕ)
text_in (raw_text bs) = Some bs
text_in r = None

abbrev pub byte_string_in : Raw → Option (List ℕ)
byte_string_in (raw_byte_string bs) = Some bs
byte_string_in r = None

abbrev pub items_in : Raw → Option Raws
items_in (raw_tuple rs) = Some rs
items_in r = None

-- the value itself, where it is an integer, of a union, or a `Variant` value
abbrev pub as_number : Raw → Option Raw
as_number (raw_number i z) = Some (raw_number i z)
as_number r = None

abbrev pub as_tagged : Raw → Option Raw
as_tagged (raw_tagged t r) = Some (raw_tagged t r)
as_tagged r = None

abbrev pub as_scalar : Raw → Option Raw
as_scalar (raw_scalar k r) = Some (raw_scalar k r)
as_scalar r = None

-- the tag of a union's value, and the type inside a `Variant` value
abbrev pub tag_in : Raw → ℤ
tag_in (raw_tagged t r) = t
tag_in r = pos 0

abbrev pub type_in : Raw → LogicalType
type_in (raw_scalar k r) = k
type_in r = null_only

-- the value inside a union's value or a `Variant` value
abbrev pub child_in : Raw → Raw
child_in (raw_tagged t r) = r
child_in (raw_scalar k r) = r
child_in r = raw_null

-- the value is an integer that type i holds, whatever its own type
abbrev pub has_whole : IntKind → Raw → Bool
has_whole i (raw_number j z) = in_range i z
has_whole i r = false

abbrev pub whole_number_in : Raw → Option ℤ
whole_number_in (raw_number i z) = Some z
whole_number_in r = None

-- The raw value's integer as one of type i, where that holds it. Its numeric value is read by
-- `number`.
abbrev pub GivesWhole : {A : Type 0} → IntKind → (A → ℤ) → Raw → Result A ScalarError → Type 0
GivesWhole i number v r = (is_ok r ≡ has_whole i v) ×
    (IfOk r (λ n. whole_number_in v ≡ Some (number n))) × (IfErr r (λ e. e ≡ Invalid))

-- the part, as seen by `view`, and `Invalid` where there is none
abbrev pub GivesPart : {A B : Type 0} → (A → B) → Option B → Result A ScalarError → Type 0
GivesPart view part r =
    (IfOk r (λ a. part ≡ Some (view a))) × (IfErr r (λ e. (e ≡ Invalid) × (part ≡ None)))

-- the raw value at an index, and null past the end
abbrev pub raw_nth : Raws → ℕ → Raw
raw_nth no_raws i = raw_null
raw_nth (raw_first r rs) zero = r
raw_nth (raw_first r rs) (suc i) = raw_nth rs i

-- the item of a list or struct at an index, and null of any other value
abbrev pub raw_part : Raw → ℕ → Raw
raw_part (raw_tuple rs) i = raw_nth rs i
raw_part r i = raw_null
