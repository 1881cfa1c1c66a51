-- Statements of the laws of conversion, of validity and of their tests.
use Rattle.std.specs.Prelude.{◌≡◌, ◌↔◌, true}
use Rattle.vortex_model.specs.LogicalType.{LogicalType, eq_type, equal_ignoring_nullability, EqualIgnoringNullability}
use Rattle.vortex_model.specs.Content.{Content, Raw, content_of}
use Rattle.vortex_model.specs.Valid.{IsContent, IsValid, valid}
use Rattle.vortex_model.specs.Convert.{Converts, converts}

-- conversion is transitive
abbrev pub ConversionsCompose : Type 0
ConversionsCompose =
    (s t u : LogicalType) (c : Content) → Converts s t c → Converts t u c → Converts s u c

-- a converted content is a content of the target type
abbrev pub ConversionsAreValid : Type 0
ConversionsAreValid =
    (s t : LogicalType) (c : Content) → IsContent s c → Converts s t c → IsContent t c

-- a valid raw value has a content of the type
abbrev pub ValidValuesAreContents : Type 0
ValidValuesAreContents = (k : LogicalType) (r : Raw) → IsValid k r → IsContent k (content_of r)

-- each content of a type is that of a valid raw value
abbrev pub ContentsHaveRawValues : Type 0
ContentsHaveRawValues =
    (k : LogicalType) (c : Content) → IsContent k c → (r : Raw) × IsValid k r × (content_of r ≡ c)

-- each test passes exactly where its relation holds: for validity, conversion, equal types, and
-- types that are equal up to nullability
abbrev pub TestsOfValidityAreRight : Type 0
TestsOfValidityAreRight = (k : LogicalType) (r : Raw) → (valid k r ≡ true) ↔ IsValid k r

abbrev pub TestsOfConversionAreRight : Type 0
TestsOfConversionAreRight =
    (s t : LogicalType) (c : Content) → (converts s t c ≡ true) ↔ Converts s t c

abbrev pub TestsOfEqualityAreRight : Type 0
TestsOfEqualityAreRight = (k l : LogicalType) → ((eq_type k l ≡ true) ↔ (k ≡ l)) ×
    ((equal_ignoring_nullability k l ≡ true) ↔ EqualIgnoringNullability k l)
