-- The tables of unions and intersections. C is the order of two values; where they don't compare,
-- there is no result.
use Rattle.std.specs.Prelude.{Option, Some, None, option_map, if◌then◌else◌}
use Rattle.std.specs.declared.cmp.Ordering.{Ordering}
use Rattle.std.specs.declared.cmp.Ordering.TheVariants.{Less, Greater}
use Rattle.std.specs.Ordering.{is_eq, is_lt, is_gt, flip_args}
use Rattle.vortex_model_table.specs.Statistics.{Precision, exact, inexact, absent}
use Rattle.vortex_stats_bound.specs.Precision.{precision_of}
use Rattle.vortex_stats_bound.specs.Order.{Comparison}
use Rattle.vortex_stats_bound.specs.declared.bound.LowerBound.{LowerBound}
use Rattle.vortex_stats_bound.specs.declared.bound.UpperBound.{UpperBound}
use Rattle.vortex_stats_bound.specs.declared.intersection.IntersectionResult.{IntersectionResult}
use Rattle.vortex_stats_bound.specs.declared.intersection.IntersectionResult.TheVariants.{Value, Empty}

-- the union of two bounds, and their intersection
abbrev pub Union : Type 0 → Type 0
Union A = Precision A → Precision A → Option (Precision A)

abbrev pub Intersection : Type 0 → Type 0
Intersection A = Precision A → Precision A → Option (IntersectionResult (Precision A))

-- the precision of the bound
abbrev pub lower_of : {A : Type 0} → LowerBound A → Precision A
lower_of b = precision_of b.0

abbrev pub upper_of : {A : Type 0} → UpperBound A → Precision A
upper_of b = precision_of b.0

-- the first, unless it is greater
abbrev pub first_unless_greater : {A : Type 0} → Option Ordering → A → A → Option A
first_unless_greater None a b = None
first_unless_greater (Some Greater) a b = Some b
first_unless_greater (Some o) a b = Some a

-- the lesser of two values, and the greater; of equal ones the first
abbrev pub lesser : {A : Type 0} → Comparison A → A → A → Option A
lesser C a b = first_unless_greater (C a b) a b

abbrev pub greater : {A : Type 0} → Comparison A → A → A → Option A
greater C a b = lesser (flip_args C) a b

-- ---- lower bounds

-- the lesser of an exact and an inexact value; of equal ones the exact
abbrev pub lesser_of_both : {A : Type 0} → Comparison A → A → A → Option (Precision A)
lesser_of_both C e i = option_map (λ o. if is_gt o then inexact i else exact e) (C e i)

-- the lesser value: exact if an exact side has it, else inexact
abbrev pub union_lower : {A : Type 0} → Comparison A → Union A
union_lower C (exact a) (exact b) = option_map (λ v. exact v) (lesser C a b)
union_lower C (inexact a) (inexact b) = option_map (λ v. inexact v) (lesser C a b)
union_lower C (exact e) (inexact i) = lesser_of_both C e i
union_lower C (inexact i) (exact e) = lesser_of_both C e i
union_lower C p q = None

-- an exact value that another one bounds from below
abbrev pub bounded_value : {A : Type 0} → Comparison A → A → A →
    Option (IntersectionResult (Precision A))
bounded_value C e i = option_map (λ o. if is_lt o then Empty else Value (exact e)) (C e i)

-- the exact value, if the two are equal
abbrev pub same_value : {A : Type 0} → Comparison A → A → A →
    Option (IntersectionResult (Precision A))
same_value C a b = option_map (λ o. if is_eq o then Value (exact a) else Empty) (C a b)

-- Two exact values are equal or exclude each other, of two inexact ones the greater is tighter, and
-- an exact one is kept if the inexact one is not above it.
abbrev pub intersection_lower : {A : Type 0} → Comparison A → Intersection A
intersection_lower C (exact a) (exact b) = same_value C a b
intersection_lower C (inexact a) (inexact b) = option_map (λ v. Value (inexact v)) (greater C a b)
intersection_lower C (exact e) (inexact i) = bounded_value C e i
intersection_lower C (inexact i) (exact e) = bounded_value C e i
intersection_lower C p q = None

-- ---- upper bounds, which are lower bounds in the reversed order

abbrev pub union_upper : {A : Type 0} → Comparison A → Union A
union_upper C p q = union_lower (flip_args C) p q

abbrev pub intersection_upper : {A : Type 0} → Comparison A → Intersection A
intersection_upper C p q = intersection_lower (flip_args C) p q

-- ---- values that are no bounds

-- the lesser value, exact if both are
abbrev pub union_plain : {A : Type 0} → Comparison A → Union A
union_plain C absent q = None
union_plain C p absent = None
union_plain C (exact a) (exact b) = option_map (λ v. exact v) (lesser C a b)
union_plain C (exact a) (inexact b) = option_map (λ v. inexact v) (lesser C a b)
union_plain C (inexact a) (exact b) = option_map (λ v. inexact v) (lesser C a b)
union_plain C (inexact a) (inexact b) = option_map (λ v. inexact v) (lesser C a b)

-- the exact value, made inexact where it is below the inexact one
abbrev pub exact_unless_below : {A : Type 0} → Comparison A → A → A →
    Option (IntersectionResult (Precision A))
exact_unless_below C e i = option_map (λ o. Value (if is_lt o then inexact e else exact e)) (C e i)

-- An intersection with an absent value is empty.
abbrev pub intersection_plain : {A : Type 0} → Comparison A → Intersection A
intersection_plain C absent q = Some Empty
intersection_plain C p absent = Some Empty
intersection_plain C (exact a) (exact b) = same_value C a b
intersection_plain C (exact e) (inexact i) = exact_unless_below C e i
intersection_plain C (inexact i) (exact e) = exact_unless_below C e i
intersection_plain C (inexact a) (inexact b) = option_map (λ v. Value (inexact v)) (lesser C a b)

-- ---- results

-- the value in common, if there is one
abbrev pub common_value : {A : Type 0} → IntersectionResult A → Option A
common_value (Value a) = Some a
common_value Empty = None

abbrev pub intersection_map : {A B : Type 0} → (A → B) → IntersectionResult A → IntersectionResult B
intersection_map f (Value a) = Value (f a)
intersection_map f Empty = Empty

-- ---- a bound and a value

abbrev pub unless_less : Option Ordering → Option Ordering
unless_less (Some Less) = None
unless_less o = o

abbrev pub unless_greater : Option Ordering → Option Ordering
unless_greater (Some Greater) = None
unless_greater o = o

-- The order of the value bounded from below and another one, if the bound determines it. An inexact
-- bound that is less does not.
abbrev pub cmp_lower : {A : Type 0} → Comparison A → Precision A → A → Option Ordering
cmp_lower C (exact a) v = C a v
cmp_lower C (inexact a) v = unless_less (C a v)
cmp_lower C absent v = None

-- the order of the value bounded from above and another one
abbrev pub cmp_upper : {A : Type 0} → Comparison A → Precision A → A → Option Ordering
cmp_upper C (exact a) v = C a v
cmp_upper C (inexact a) v = unless_greater (C a v)
cmp_upper C absent v = None
