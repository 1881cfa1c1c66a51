-- Statements of the laws of casts, and of the order and equality of scalars.
use Rattle.std.specs.Prelude.{◌≡◌, ◌↔◌, true, false, Some}
use Rattle.std.specs.declared.cmp.Ordering.TheVariants.{Equal}
use Rattle.vortex_model.specs.LogicalType.{LogicalType, nullable, with_nullability, EqualIgnoringNullability}
use Rattle.vortex_model.specs.Content.{Content, Raw, content_of}
use Rattle.vortex_model.specs.Valid.{IsValid, IsContent}
use Rattle.vortex_model.specs.Convert.{Converts, converts}
use Rattle.vortex_model.specs.Order.{scalar_cmp}
use Rattle.vortex_scalar_ops.specs.Equality.{has_variant}
use Rattle.vortex_scalar_core.specs.Equality.{eq_typed}
use Rattle.vortex_scalar_core.specs.Scalar.{scalar_type, scalar_content}
use Rattle.vortex_scalar_core.specs.declared.scalar.Scalar.{Scalar}

-- The value r of type s, cast to type t, is u: t can hold the content, and u is valid for t with
-- the same content.
abbrev pub IsCast : LogicalType → Raw → LogicalType → Raw → Type 0
IsCast s r t u = Converts s t (content_of r) × IsValid t u × (content_of u ≡ content_of r)

-- values of one type with equal contents are equal
abbrev pub ContentsTellValues : Type 0
ContentsTellValues =
    (k : LogicalType) (r s : Raw) → IsValid k r → IsValid k s → content_of r ≡ content_of s → r ≡ s

-- a cast has one result, and exists where the target can hold the content
abbrev pub CastsGiveOneValue : Type 0
CastsGiveOneValue = (s t : LogicalType) (r u v : Raw) → IsCast s r t u → IsCast s r t v → u ≡ v

abbrev pub CastsExist : Type 0
CastsExist = (s t : LogicalType) (r : Raw) → IsValid s r → Converts s t (content_of r) → (u : Raw) ×
    IsCast s r t u

-- a cast there and back gives the same value
abbrev pub CastsComeBack : Type 0
CastsComeBack =
    (s t : LogicalType) (r u v : Raw) → IsValid s r → IsCast s r t u → IsCast t u s v → v ≡ r

-- a value that was cast can be cast back
abbrev pub CastsHaveOneBack : Type 0
CastsHaveOneBack =
    (s t : LogicalType) (r u : Raw) → IsValid s r → IsCast s r t u → Converts t s (content_of u)

-- the result of casting one scalar to a type: the type can hold the content, which is kept
abbrev pub GivenByCast : Scalar → LogicalType → Scalar → Type 0
GivenByCast s t u = (converts (scalar_type s) t (scalar_content s) ≡ true) × (scalar_type u ≡ t) ×
    (scalar_content u ≡ scalar_content s)

-- two casts one after another are one cast
abbrev pub CastsCompose : Type 0
CastsCompose =
    (s t w : LogicalType) (r u v : Raw) → IsCast s r t u → IsCast t u w v → IsCast s r w v

-- a value cast to its own type is the same, also from the nullable type
abbrev pub ValuesCastToTheirType : Type 0
ValuesCastToTheirType = (k : LogicalType) (r : Raw) → IsValid k r → IsCast k r k r

abbrev pub NullableValuesCastBack : Type 0
NullableValuesCastBack =
    (k : LogicalType) (r : Raw) → IsValid k r → IsCast (with_nullability nullable k) r k r

-- casts to one type keep the order and the equality of values whose types are equal up to
-- nullability
abbrev pub CastsKeepOrder : Type 0
CastsKeepOrder = (k l t : LogicalType) (r s u v : Raw) → EqualIgnoringNullability k l →
    IsCast k r t u → IsCast l s t v →
    scalar_cmp t (content_of u) t (content_of v) ≡ scalar_cmp k (content_of r) l (content_of s)

abbrev pub CastsKeepEquality : Type 0
CastsKeepEquality = (k l t : LogicalType) (r s u v : Raw) → EqualIgnoringNullability k l →
    IsCast k r t u → IsCast l s t v →
    eq_typed t (content_of u) t (content_of v) ≡ eq_typed k (content_of r) l (content_of s)

-- values of types without `Variant` compare as equal exactly where they are equal
abbrev pub TiedValuesAreEqual : Type 0
TiedValuesAreEqual = (k l : LogicalType) (c d : Content) → has_variant k ≡ false → IsContent k c →
    (scalar_cmp k c l d ≡ Some Equal) ↔ (eq_typed k c l d ≡ true)
