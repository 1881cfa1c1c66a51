-- Statistics as bits, eight to a byte, the lowest first.
use Rattle.std.specs.Prelude.{◌≡◌, ℕ, ◌/◌, ◌%◌, ◌==◌, Bool, List, length, filter, slice_index}
use Rattle.std.specs.Int.{bit_at}
use Rattle.std.specs.List.{list_any}
use Rattle.vortex_stats_expr.specs.declared.stat.Stat.{Stat}
use Rattle.vortex_stats_expr.specs.Stats.{number_of_stat, all_stats}

-- bit i of the bytes is set
abbrev pub has_bit : List ℕ → ℕ → Bool
has_bit bytes i = bit_at (slice_index bytes (i / 8)) (i % 8) == 1

-- the statistic of this number is among them
abbrev pub has_number : List Stat → ℕ → Bool
has_number stats i = list_any (λ s. number_of_stat s == i) stats

-- two bytes, whose bit i says whether the statistic of number i is among them
pub record IsBitset (stats : List Stat) (bytes : List ℕ) : Type 0 where
  pub two : length bytes ≡ 2
  pub bits : (i : ℕ) → has_bit bytes i ≡ has_number stats i

-- the statistics whose bits are set, by number
abbrev pub stats_in : List ℕ → List Stat
stats_in bytes = filter (λ s. has_bit bytes (number_of_stat s)) all_stats

-- the statistics of the list, each once and by number
abbrev pub distinct_by_number : List Stat → List Stat
distinct_by_number stats = filter (λ s. has_number stats (number_of_stat s)) all_stats
