-- Statements of the laws of equality, order and hash of values.
use Rattle.std.specs.Prelude.{◌≡◌, ◌↔◌, true, false, Some, option_map, is_some}
use Rattle.std.specs.Cmp.{IsEquivalence}
use Rattle.std.specs.declared.cmp.Ordering.TheVariants.{Less, Equal}
use Rattle.std.specs.Ordering.{ordering_reverse, is_le}
use Rattle.vortex_model.specs.LogicalType.{LogicalType, EqualIgnoringNullability}
use Rattle.vortex_model.specs.Content.{Content}
use Rattle.vortex_model.specs.Order.{content_cmp, is_known}
use Rattle.vortex_model.specs.Valid.{IsContent}
use Rattle.vortex_scalar_ops.specs.Hashing.{content_writes}
use Rattle.vortex_scalar_ops.specs.Equality.{eq_content, holds_variant, has_variant}

-- equality is reflexive, symmetric and transitive
abbrev pub EqualityIsAnEquivalence : Type 0
EqualityIsAnEquivalence = IsEquivalence eq_content

-- equal values have equal hashes
abbrev pub EqualValuesHashAlike : Type 0
EqualValuesHashAlike = (c d : Content) → eq_content c d ≡ true → content_writes c ≡ content_writes d

-- Values without `Variant` values inside compare as equal exactly where they are equal. Values of a
-- type without `Variant` at any level are such values.
abbrev pub TiedValuesAreTheSame : Type 0
TiedValuesAreTheSame = (c d : Content) → holds_variant c ≡ false → (content_cmp c d ≡ Some Equal) ↔
    (eq_content c d ≡ true)

abbrev pub PlainTypesHavePlainValues : Type 0
PlainTypesHavePlainValues = (k : LogicalType) (c : Content) → has_variant k ≡ false →
    IsContent k c → holds_variant c ≡ false

-- two values of one type without `Variant`, up to nullability, compare
abbrev pub ValuesOfATypeCompare : Type 0
ValuesOfATypeCompare = (k l : LogicalType) (c d : Content) → EqualIgnoringNullability k l →
    has_variant k ≡ false → IsContent k c → IsContent l d → is_some (content_cmp c d) ≡ true

-- comparing the other way round reverses the order
abbrev pub OrderTurns : Type 0
OrderTurns = (c d : Content) → content_cmp d c ≡ option_map ordering_reverse (content_cmp c d)

-- c compares with d and is below it, or is not above it
abbrev pub IsBelow : Content → Content → Type 0
IsBelow c d = content_cmp c d ≡ Some Less

abbrev pub IsNotAbove : Content → Content → Type 0
IsNotAbove c d = is_known is_le (content_cmp c d) ≡ true

-- the order is transitive, strictly and not
abbrev pub OrderIsTransitive : Type 0
OrderIsTransitive = (c d e : Content) → (IsBelow c d → IsBelow d e → IsBelow c e) ×
    (IsNotAbove c d → IsNotAbove d e → IsNotAbove c e)

-- equal values have the same order to any other value
abbrev pub EqualValuesCompareAlike : Type 0
EqualValuesCompareAlike =
    (c d e : Content) → eq_content c d ≡ true → content_cmp c e ≡ content_cmp d e
