-- Statements of the laws of types up to nullability, and of projections.
use Rattle.std.specs.Prelude.{◌≡◌, ℕ, List, Some}
use Rattle.std.specs.Cmp.{IsEquivalence}
use Rattle.vortex_model.specs.LogicalType.{LogicalType, Fields, EqualIgnoringNullability, equal_ignoring_nullability}
use Rattle.vortex_dtype_fields.specs.Hashing.{type_writes}
use Rattle.vortex_dtype_fields.specs.Records.{names_of, projected}
use Rattle.vortex_dtype_fields.specs.Widths.{FitsInto}

-- equality up to nullability is reflexive, symmetric and transitive
abbrev pub EqualityIgnoringNullabilityIsAnEquivalence : Type 0
EqualityIgnoringNullabilityIsAnEquivalence = IsEquivalence equal_ignoring_nullability

-- types equal up to nullability have equal hashes
abbrev pub EqualTypesHashAlike : Type 0
EqualTypesHashAlike =
    (k l : LogicalType) → EqualIgnoringNullability k l → type_writes k ≡ type_writes l

-- fitting is reflexive and transitive
abbrev pub FittingIsReflexive : Type 0
FittingIsReflexive = (k : LogicalType) → FitsInto k k

abbrev pub FittingIsTransitive : Type 0
FittingIsTransitive = (k l m : LogicalType) → FitsInto k l → FitsInto l m → FitsInto k m

-- a projection has the requested names, in their order
abbrev pub ProjectionsHaveTheNames : Type 0
ProjectionsHaveTheNames =
    (fs : Fields) (xs : List (List ℕ)) (gs : Fields) → projected fs xs ≡ Some gs → names_of gs ≡ xs
