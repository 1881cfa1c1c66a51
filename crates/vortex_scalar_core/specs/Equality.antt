-- Equality of scalars, and their writes to a hasher.
use Rattle.std.specs.Prelude.{◌≡◌, ℕ, Bool, ◌&&◌, List, ◌++◌, IsTrue}
use Rattle.std.specs.Cmp.{IsEquivalence, on_equiv, and_equiv, first_so, second_so}
use Rattle.vortex_model.specs.LogicalType.{LogicalType, bare, equal_ignoring_nullability}
use Rattle.vortex_model.specs.Content.{Content}
use Rattle.vortex_model.proofs.Tests.{kind_so}
use Rattle.vortex_dtype_fields.specs.Hashing.{type_writes}
use Rattle.vortex_dtype_fields.proofs.Lawful.{equal_equiv, hash_alike}
use Rattle.vortex_scalar_ops.specs.Hashing.{content_writes}
use Rattle.vortex_scalar_ops.specs.Equality.{eq_content}
use Rattle.vortex_scalar_ops.proofs.Hashed.{eq_fed}
use Rattle.vortex_scalar_ops.proofs.EqualityLemmas.{eq_equiv}
use Rattle.vortex_scalar_core.specs.Scalar.{scalar_type, scalar_content}
use Rattle.vortex_scalar_core.specs.declared.scalar.Scalar.{Scalar}

-- the types are equal up to nullability, and the contents up to nullability of the types inside
-- `Variant` values
abbrev pub eq_typed : LogicalType → Content → LogicalType → Content → Bool
eq_typed k c l d = equal_ignoring_nullability k l && eq_content c d

abbrev pub eq_scalar : Scalar → Scalar → Bool
eq_scalar s t = eq_typed (scalar_type s) (scalar_content s) (scalar_type t) (scalar_content t)

-- the writes of the type, and then those of the content
abbrev pub scalar_writes : Scalar → List (List ℕ)
scalar_writes s = type_writes (scalar_type s) ++ content_writes (scalar_content s)

pub eq_scalar_equiv : IsEquivalence eq_scalar
eq_scalar_equiv = and_equiv (on_equiv scalar_type equal_equiv) (on_equiv scalar_content eq_equiv)

pub eq_scalars_hash_alike : (s t : Scalar) → IsTrue (eq_scalar s t) →
    scalar_writes s ≡ scalar_writes t
eq_scalars_hash_alike s t h =
    let kinds = first_so (equal_ignoring_nullability (scalar_type s) (scalar_type t))
    (eq_content (scalar_content s) (scalar_content t)) h in
    let contents = second_so (equal_ignoring_nullability (scalar_type s) (scalar_type t))
    (eq_content (scalar_content s) (scalar_content t)) h in
    λ i. hash_alike (scalar_type s) (scalar_type t)
    (kind_so (bare (scalar_type s)) (bare (scalar_type t)) kinds) i ++
    eq_fed (scalar_content s) (scalar_content t) contents i
