-- The order of scalars, and that it is lawful.
use Rattle.std.specs.Prelude.{◌≡◌, refl, Bool, true, false, not, Option, Some, None, option_map, if◌then◌else◌}
use Rattle.std.specs.declared.cmp.Ordering.{Ordering}
use Rattle.std.specs.declared.cmp.Ordering.TheVariants.{Less, Equal, Greater}
use Rattle.std.specs.Ordering.{ordering_reverse, is_eq, is_some_and}
use Rattle.std.specs.Bool.{Decides}
use Rattle.std.proofs.Common.{ap, ◌∙◌}
use Rattle.vortex_model.specs.LogicalType.{equal_ignoring_nullability}
use Rattle.vortex_model.specs.Order.{content_cmp, scalar_cmp}
use Rattle.vortex_model_table.proofs.Chains.{tied}
use Rattle.vortex_model_table.proofs.ContentOrder.{reversed}
use Rattle.vortex_dtype_fields.proofs.Lawful.{equal_equiv}
use Rattle.vortex_scalar_ops.specs.Equality.{has_variant}
use Rattle.vortex_scalar_ops.proofs.Ordered.{chains}
use Rattle.vortex_scalar_core.specs.Scalar.{scalar_type, scalar_content}
use Rattle.vortex_scalar_core.specs.declared.scalar.Scalar.{Scalar}
use Rattle.vortex_stats_bound.specs.Order.{Comparison, ties, IsLawful}

-- Scalars compare where their types are equal up to nullability.
abbrev pub scalar_order : Comparison Scalar
scalar_order s t = scalar_cmp (scalar_type s) (scalar_content s) (scalar_type t) (scalar_content t)

-- No part of the value's type is Variant.
abbrev pub is_plain : Scalar → Bool
is_plain s = not (has_variant (scalar_type s))

-- ---- a result under a test

abbrev under : Bool → Option Ordering → Option Ordering
under b o = if b then o else None

under_map : (f : Ordering → Ordering) (b : Bool) (o : Option Ordering) →
    under b (option_map f o) ≡ option_map f (under b o)
under_map f true o = refl
under_map f false o = refl

pub test_of : (b : Bool) (o : Option Ordering) (x : Ordering) → under b o ≡ Some x → b ≡ true
test_of true o x h = refl
test_of false o x h = absurd (cc h)

pub answer_of : (b : Bool) (o : Option Ordering) (x : Ordering) → under b o ≡ Some x → o ≡ Some x
answer_of true o x h = h
answer_of false o x h = absurd (cc h)

pub tie_is : (o : Option Ordering) → is_some_and is_eq o ≡ true → o ≡ Some Equal
tie_is None h = absurd (cc h)
tie_is (Some Less) h = absurd (cc h)
tie_is (Some Equal) h = refl
tie_is (Some Greater) h = absurd (cc h)

pub tie_decides : (o : Option Ordering) → Decides (is_some_and is_eq o) (o ≡ Some Equal)
tie_decides o = (λ h. tie_is o h, λ e. ap (is_some_and is_eq) e)

-- ---- the laws

abbrev pub same_types : Scalar → Scalar → Bool
same_types s t = equal_ignoring_nullability (scalar_type s) (scalar_type t)

abbrev pub standing : Scalar → Scalar → Option Ordering
standing s t = content_cmp (scalar_content s) (scalar_content t)

chain : (s t u : Scalar) → scalar_order s t ≡ Some Less → scalar_order t u ≡ Some Less →
    scalar_order s u ≡ Some Less
chain s t u h g =
    let first : same_types s t ≡ true = test_of (same_types s t) (standing s t) Less h in
    let second : same_types t u ≡ true = test_of (same_types t u) (standing t u) Less g in
    let both : same_types s u ≡ true =
    equal_equiv.congr (scalar_type s) (scalar_type t) (scalar_type u) first ∙ second in
    let below : standing s u ≡ Some Less =
    (chains (scalar_content s) (scalar_content t) (scalar_content u)).0
    (answer_of (same_types s t) (standing s t) Less h)
    (answer_of (same_types t u) (standing t u) Less g) in
    λ i. under (both i) (below i)

alike : (s t u : Scalar) → ties scalar_order s t ≡ true → scalar_order s u ≡ scalar_order t u
alike s t u h =
    let is : scalar_order s t ≡ Some Equal = tie_is (scalar_order s t) h in
    let test : same_types s t ≡ true = test_of (same_types s t) (standing s t) Equal is in
    let one : scalar_content s ≡ scalar_content t =
    tied (scalar_content s) (scalar_content t)
    (answer_of (same_types s t) (standing s t) Equal is) in
    λ i. under (equal_equiv.congr (scalar_type s) (scalar_type t) (scalar_type u) test i)
    (content_cmp (one i) (scalar_content u))

turned : (s t : Scalar) → scalar_order s t ≡ option_map ordering_reverse (scalar_order t s)
turned s t =
    (λ i. under (equal_equiv.symm (scalar_type s) (scalar_type t) i)
    (reversed (scalar_content t) (scalar_content s) i))
    ∙ under_map ordering_reverse (same_types t s) (standing t s)

pub scalar_order_lawful : IsLawful scalar_order
scalar_order_lawful = record {
  antisymm = turned;
  trans = chain;
  matches_eq = λ s t. tie_decides (scalar_order s t);
  congr = alike;
}
