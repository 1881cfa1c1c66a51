-- The bound of several lists of values by the bound of each, and the count by their counts, without
-- any order among them.
use Rattle.std.specs.Prelude.{◌≡◌, ℕ, pos, List, All, Contains, count_by, sum_by, Bool, true, false, ◌&&◌, ◌==◌, if◌then◌else◌}
use Rattle.std.specs.Ordering.{is_lt, is_le}
use Rattle.vortex_model.specs.LogicalType.{u64}
use Rattle.vortex_model.specs.Content.{Content, Raw, raw_number}
use Rattle.vortex_model.specs.Order.{is_known}
use Rattle.vortex_model.specs.Valid.{in_range}
use Rattle.vortex_model_table.specs.Statistics.{Precision, exact, inexact, absent}
use Rattle.vortex_stats_bound.specs.Order.{Comparison}

-- The first bound holds wherever the second does: nothing known holds everywhere, an exact value
-- also where an equal one is inexact.
abbrev pub stands : Comparison Content → Precision Content → Precision Content → Bool
stands C absent q = true
stands C (exact a) (exact b) = is_known is_le (C a b)
stands C (exact a) (inexact b) = is_known is_le (C a b)
stands C (inexact a) (exact b) = is_known is_lt (C a b)
stands C (inexact a) (inexact b) = is_known is_le (C a b)
stands C p q = false

-- It is one of the bounds, and comes before each: absent where one of them is, else the first
-- value, exact where an exact one has it.
abbrev pub IsFirst : Comparison Content → List (Precision Content) → Precision Content → Type 0
IsFirst C ps p = Contains ps p × All (λ q. stands C p q ≡ true) ps

-- ---- counts

abbrev pub number_of : Precision ℕ → ℕ
number_of (exact n) = n
number_of (inexact n) = n
number_of absent = 0

abbrev pub is_missing : Precision ℕ → Bool
is_missing absent = true
is_missing p = false

abbrev pub is_rough : Precision ℕ → Bool
is_rough (inexact n) = true
is_rough p = false

abbrev pub total_by : Bool → Bool → ℕ → Precision ℕ
total_by all sharp n =
    if all && in_range u64 (pos n) then (if sharp then exact n else inexact n) else absent

-- the sum of the counts if all are known and it fits in a u64: exact if all are
abbrev pub total : List (Precision ℕ) → Precision ℕ
total ps = total_by (count_by is_missing ps == 0) (count_by is_rough ps == 0) (sum_by number_of ps)

-- the count as a raw value
abbrev pub counted : Precision ℕ → Precision Raw
counted (exact n) = exact (raw_number u64 (pos n))
counted (inexact n) = inexact (raw_number u64 (pos n))
counted absent = absent
