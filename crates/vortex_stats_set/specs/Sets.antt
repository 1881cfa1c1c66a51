-- Lists of statistics with their values: reading and changing them.
use Rattle.std.specs.Prelude.{◌≡◌, ◌≤◌, List, [], ◌∷◌, ◌++◌, length, map, filter, Option, Some, None, Bool, true, false, not, ◌&&◌, ◌==◌, if◌then◌else◌}
use Rattle.std.specs.List.{list_any}
use Rattle.vortex_stats_expr.specs.declared.stat.Stat.{Stat}
use Rattle.vortex_stats_expr.specs.Stats.{number_of_stat}
use Rattle.vortex_stats_expr.specs.Bitsets.{has_number}

-- the pair is of the statistic
abbrev pub is_of : {A : Type 0} → Stat → Stat × A → Bool
is_of s e = number_of_stat e.0 == number_of_stat s

-- a pair of the list is of the statistic
abbrev pub has_stat : {A : Type 0} → List (Stat × A) → Stat → Bool
has_stat xs s = list_any (is_of s) xs

-- no statistic occurs twice
abbrev pub is_set : {A : Type 0} → List (Stat × A) → Bool
is_set [] = true
is_set (e ∷ es) = not (has_stat es e.0) && is_set es

-- the pair with this value, if it is of the statistic
abbrev pub with_value : {A : Type 0} → Stat → A → Stat × A → Stat × A
with_value s a e = (e.0, if is_of s e then a else e.1)

-- the statistic has this value: at its index, and else at the end
abbrev pub set_in : {A : Type 0} → List (Stat × A) → Stat → A → List (Stat × A)
set_in xs s a = if has_stat xs s then map (with_value s a) xs else xs ++ (s, a) ∷ []

-- the list after each of these is set, one after another
abbrev pub set_in_turn : {A : Type 0} → List (Stat × A) → List (Stat × A) → List (Stat × A)
set_in_turn xs [] = xs
set_in_turn xs (e ∷ es) = set_in_turn (set_in xs e.0 e.1) es

-- The statistic is missing and four others are there, which is all the room inline: one more
-- allocates.
abbrev pub HasNoPlace : {A : Type 0} → List (Stat × A) → Stat → Type 0
HasNoPlace xs s = (has_stat xs s ≡ false) × (4 ≤ length xs)

-- all pairs but that of the statistic
abbrev pub without : {A : Type 0} → List (Stat × A) → Stat → List (Stat × A)
without xs s = filter (λ e. not (is_of s e)) xs

-- only the pairs of these statistics
abbrev pub only : {A : Type 0} → List (Stat × A) → List Stat → List (Stat × A)
only xs stats = filter (λ e. has_number stats (number_of_stat e.0)) xs

-- the value of the statistic, if it is there
abbrev pub value_in : {A : Type 0} → List (Stat × A) → Stat → Option A
value_in [] s = None
value_in (e ∷ es) s = if is_of s e then Some e.1 else value_in es s
