-- The order of values that compare.
use Rattle.std.specs.Prelude.{Bool, Option}
use Rattle.std.specs.declared.cmp.Ordering.{Ordering}
use Rattle.std.specs.Ordering.{is_eq, is_some_and, flip_args}
use Rattle.std.specs.Cmp.{IsPartialOrder}
use Rattle.vortex_stats_bound.specs.declared.union.Side.{Side}
use Rattle.vortex_stats_bound.specs.declared.union.Side.TheVariants.{Lower, Upper}

-- the order of the first value and the second, and None where they don't compare
abbrev pub Comparison : Type 0 → Type 0
Comparison A = A → A → Option Ordering

-- the two compare, as equal
abbrev pub ties : {A : Type 0} → Comparison A → A → A → Bool
ties C a b = is_some_and is_eq (C a b)

-- The reversed order is consistent, less is transitive, and values that tie compare alike with any
-- other.
abbrev pub IsLawful : {A : Type 0} → Comparison A → Type 0
IsLawful C = IsPartialOrder (ties C) C

-- Upper bounds are lower bounds in the reversed order.
abbrev pub seen_from : {A : Type 0} → Side → Comparison A → Comparison A
seen_from Lower C = C
seen_from Upper C = flip_args C
