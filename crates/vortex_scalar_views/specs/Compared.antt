-- Equality, order and hash of values with their types.
use Rattle.std.proofs.Common.{ℕ, List, Bool, Option}
use Rattle.std.specs.declared.cmp.Ordering.{Ordering}
use Rattle.std.specs.Ordering.{on}
use Rattle.std.specs.Cmp.{IsEquivalence, and_equiv, on_equiv}
use Rattle.std.specs.Hash.{Alike, second_alike, on_Alike}
use Rattle.vortex_model.specs.LogicalType.{LogicalType, bare, equal_ignoring_nullability}
use Rattle.vortex_model.specs.Content.{Content, content_of}
use Rattle.vortex_model.specs.Order.{scalar_cmp}
use Rattle.vortex_dtype_core.specs.Equal.{eq_type_equiv}
use Rattle.vortex_scalar_ops.specs.Hashing.{content_writes}
use Rattle.vortex_scalar_ops.proofs.Hashed.{eq_fed}
use Rattle.vortex_scalar_ops.proofs.EqualityLemmas.{eq_equiv}
use Rattle.vortex_scalar_core.specs.Equality.{eq_typed}
use Rattle.vortex_scalar_views.specs.Forms.{Typed}

abbrev pub type_of_view : Typed → LogicalType
type_of_view t = t.0

abbrev pub content_of_view : Typed → Content
content_of_view t = content_of t.1

-- the types are equal up to nullability, and so are the values
abbrev pub eq_views : Typed → Typed → Bool
eq_views t u = eq_typed t.0 (content_of t.1) u.0 (content_of u.1)

-- the order of the values, where the types are equal up to nullability
abbrev pub typed_cmp : Typed → Typed → Option Ordering
typed_cmp t u = scalar_cmp t.0 (content_of t.1) u.0 (content_of u.1)

-- the writes of the value, without those of the type
abbrev pub typed_writes : Typed → List (List ℕ)
typed_writes t = content_writes (content_of t.1)

-- ---- laws

pub eq_views_equiv : IsEquivalence eq_views
eq_views_equiv = and_equiv (on_equiv type_of_view (on_equiv bare eq_type_equiv))
    (on_equiv content_of_view eq_equiv)

pub eq_views_alike : Alike eq_views typed_writes
eq_views_alike = second_alike (on type_of_view equal_ignoring_nullability)
    (on_Alike content_of_view (record { fed = eq_fed }))
