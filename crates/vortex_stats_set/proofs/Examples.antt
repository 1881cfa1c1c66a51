-- Lists of statistics: setting, removing, keeping and reading.
use Rattle.std.proofs.Common.{◌≡◌, ℕ, List, [], ◌∷◌, Some, None, true, false, refl}
use Rattle.vortex_stats_expr.specs.declared.stat.Stat.{Stat}
use Rattle.vortex_stats_expr.specs.declared.stat.Stat.TheVariants as stat
use Rattle.vortex_stats_set.specs.Sets.{is_set, set_in_turn, without, only, value_in}

-- the maximum is set twice, with the minimum between
abbrev row : List (Stat × ℕ)
row = (stat.Max, 1) ∷ (stat.Min, 0) ∷ (stat.Max, 2) ∷ []

abbrev kept : List (Stat × ℕ)
kept = (stat.Max, 2) ∷ (stat.Min, 0) ∷ []

twice_is_no_set : is_set row ≡ false
twice_is_no_set = refl

set_in_its_place : set_in_turn [] row ≡ kept
set_in_its_place = refl

set_once : is_set kept ≡ true
set_once = refl

taken_out : without kept stat.Max ≡ (stat.Min, 0) ∷ []
taken_out = refl

kept_alone : only kept (stat.Sum ∷ stat.Min ∷ []) ≡ (stat.Min, 0) ∷ []
kept_alone = refl

known : value_in kept stat.Max ≡ Some 2
known = refl

unknown : value_in kept stat.Sum ≡ None
unknown = refl
