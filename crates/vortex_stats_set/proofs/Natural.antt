-- Unions and intersections of bounds, through a view of the values that preserves their order.
use Rattle.std.proofs.Common.{◌≡◌, refl, Option, Some, None, option_map, if◌then◌else◌}
use Rattle.std.specs.declared.cmp.Ordering.{Ordering}
use Rattle.std.specs.declared.cmp.Ordering.TheVariants.{Less, Equal, Greater}
use Rattle.std.specs.Ordering.{is_eq, is_lt, is_gt}
use Rattle.vortex_model_table.specs.Statistics.{Precision, exact, inexact, absent}
use Rattle.vortex_stats_bound.specs.Order.{Comparison}
use Rattle.vortex_stats_bound.specs.Precision.{precision_map}
use Rattle.vortex_stats_bound.specs.declared.intersection.IntersectionResult.{IntersectionResult}
use Rattle.vortex_stats_bound.specs.declared.intersection.IntersectionResult.TheVariants.{Value, Empty}
use Rattle.vortex_stats_bound.specs.Bounds.{union_lower, union_upper, intersection_lower, intersection_upper, intersection_plain, intersection_map, first_unless_greater}

-- the order of the viewed values
abbrev pub seen : {A B : Type 0} → (A → B) → Comparison B → Comparison A
seen f C a b = C (f a) (f b)

abbrev pub map_common : {A B : Type 0} → (A → B) → Option (IntersectionResult (Precision A)) → Option (IntersectionResult (Precision B))
map_common f m = option_map (λ r. intersection_map (precision_map f) r) m

exact-chosen : {A B : Type 0} (f : A → B) (o : Option Ordering) (a b : A) →
    option_map (precision_map f) (option_map (λ v. exact v) (first_unless_greater o a b)) ≡ option_map (λ v. exact v) (first_unless_greater o (f a) (f b))
exact-chosen f None a b = refl
exact-chosen f (Some Less) a b = refl
exact-chosen f (Some Equal) a b = refl
exact-chosen f (Some Greater) a b = refl

inexact-chosen : {A B : Type 0} (f : A → B) (o : Option Ordering) (a b : A) →
    option_map (precision_map f) (option_map (λ v. inexact v) (first_unless_greater o a b)) ≡ option_map (λ v. inexact v) (first_unless_greater o (f a) (f b))
inexact-chosen f None a b = refl
inexact-chosen f (Some Less) a b = refl
inexact-chosen f (Some Equal) a b = refl
inexact-chosen f (Some Greater) a b = refl

both-chosen : {A B : Type 0} (f : A → B) (o : Option Ordering) (e i : A) →
    option_map (precision_map f) (option_map (λ x. if is_gt x then inexact i else exact e) o) ≡ option_map (λ x. if is_gt x then inexact (f i) else exact (f e)) o
both-chosen f None e i = refl
both-chosen f (Some Less) e i = refl
both-chosen f (Some Equal) e i = refl
both-chosen f (Some Greater) e i = refl

pub union_lower-seen : {A B : Type 0} (f : A → B) (C : Comparison B) (p q : Precision A) →
    option_map (precision_map f) (union_lower (seen f C) p q) ≡ union_lower C (precision_map f p) (precision_map f q)
union_lower-seen f C (exact a) (exact b) = exact-chosen f (C (f a) (f b)) a b
union_lower-seen f C (exact a) (inexact b) = both-chosen f (C (f a) (f b)) a b
union_lower-seen f C (exact a) absent = refl
union_lower-seen f C (inexact a) (exact b) = both-chosen f (C (f b) (f a)) b a
union_lower-seen f C (inexact a) (inexact b) = inexact-chosen f (C (f a) (f b)) a b
union_lower-seen f C (inexact a) absent = refl
union_lower-seen f C absent (exact b) = refl
union_lower-seen f C absent (inexact b) = refl
union_lower-seen f C absent absent = refl

pub union_upper-seen : {A B : Type 0} (f : A → B) (C : Comparison B) (p q : Precision A) →
    option_map (precision_map f) (union_upper (seen f C) p q) ≡ union_upper C (precision_map f p) (precision_map f q)
union_upper-seen f C p q = union_lower-seen f (λ a b. C b a) p q

same-seen : {A B : Type 0} (f : A → B) (o : Option Ordering) (a : A) →
    map_common f (option_map (λ x. if is_eq x then Value (exact a) else Empty) o) ≡ option_map (λ x. if is_eq x then Value (exact (f a)) else Empty) o
same-seen f None a = refl
same-seen f (Some Less) a = refl
same-seen f (Some Equal) a = refl
same-seen f (Some Greater) a = refl

bounded-seen : {A B : Type 0} (f : A → B) (o : Option Ordering) (e : A) →
    map_common f (option_map (λ x. if is_lt x then Empty else Value (exact e)) o) ≡ option_map (λ x. if is_lt x then Empty else Value (exact (f e))) o
bounded-seen f None e = refl
bounded-seen f (Some Less) e = refl
bounded-seen f (Some Equal) e = refl
bounded-seen f (Some Greater) e = refl

unless-seen : {A B : Type 0} (f : A → B) (o : Option Ordering) (e : A) →
    map_common f (option_map (λ x. Value (if is_lt x then inexact e else exact e)) o) ≡ option_map (λ x. Value (if is_lt x then inexact (f e) else exact (f e))) o
unless-seen f None e = refl
unless-seen f (Some Less) e = refl
unless-seen f (Some Equal) e = refl
unless-seen f (Some Greater) e = refl

chosen-seen : {A B : Type 0} (f : A → B) (o : Option Ordering) (a b : A) →
    map_common f (option_map (λ v. Value (inexact v)) (first_unless_greater o a b)) ≡ option_map (λ v. Value (inexact v)) (first_unless_greater o (f a) (f b))
chosen-seen f None a b = refl
chosen-seen f (Some Less) a b = refl
chosen-seen f (Some Equal) a b = refl
chosen-seen f (Some Greater) a b = refl

pub intersection_lower-seen : {A B : Type 0} (f : A → B) (C : Comparison B) (p q : Precision A) →
    map_common f (intersection_lower (seen f C) p q) ≡ intersection_lower C (precision_map f p) (precision_map f q)
intersection_lower-seen f C (exact a) (exact b) = same-seen f (C (f a) (f b)) a
intersection_lower-seen f C (exact a) (inexact b) = bounded-seen f (C (f a) (f b)) a
intersection_lower-seen f C (exact a) absent = refl
intersection_lower-seen f C (inexact a) (exact b) = bounded-seen f (C (f b) (f a)) b
intersection_lower-seen f C (inexact a) (inexact b) = chosen-seen f (C (f b) (f a)) a b
intersection_lower-seen f C (inexact a) absent = refl
intersection_lower-seen f C absent (exact b) = refl
intersection_lower-seen f C absent (inexact b) = refl
intersection_lower-seen f C absent absent = refl

pub intersection_upper-seen : {A B : Type 0} (f : A → B) (C : Comparison B) (p q : Precision A) →
    map_common f (intersection_upper (seen f C) p q) ≡ intersection_upper C (precision_map f p) (precision_map f q)
intersection_upper-seen f C p q = intersection_lower-seen f (λ a b. C b a) p q

pub intersection_plain-seen : {A B : Type 0} (f : A → B) (C : Comparison B) (p q : Precision A) →
    map_common f (intersection_plain (seen f C) p q) ≡ intersection_plain C (precision_map f p) (precision_map f q)
intersection_plain-seen f C (exact a) (exact b) = same-seen f (C (f a) (f b)) a
intersection_plain-seen f C (exact a) (inexact b) = unless-seen f (C (f a) (f b)) a
intersection_plain-seen f C (exact a) absent = refl
intersection_plain-seen f C (inexact a) (exact b) = unless-seen f (C (f b) (f a)) b
intersection_plain-seen f C (inexact a) (inexact b) = chosen-seen f (C (f a) (f b)) a b
intersection_plain-seen f C (inexact a) absent = refl
intersection_plain-seen f C absent (exact b) = refl
intersection_plain-seen f C absent (inexact b) = refl
intersection_plain-seen f C absent absent = refl

pub ruleset unions = (union_lower-seen, union_upper-seen)

pub ruleset intersections = (intersection_lower-seen, intersection_upper-seen, intersection_plain-seen)
