-- What the calls on a catalogue promise, of its partitions before and after.
use Rattle.std.specs.Prelude.{◌≡◌, ◌⊎◌, ◌++◌, ◌∷◌, [], ℕ, List, true, false, IsSome, IsNone}
use Rattle.vortex_model.specs.LogicalType.{LogicalType}
use Rattle.vortex_model.specs.Content.{Content}
use Rattle.vortex_scalar_value.specs.declared.scalar_value.ScalarValue.{ScalarValue}
use Rattle.vortex_stats_bound.specs.declared.precision.Precision as declared
use Rattle.vortex_stats_expr.specs.declared.error.StatsError.TheVariants.{Memory, InvalidStat}
use Rattle.vortex_stats_expr.specs.declared.stat.Stat.{Stat}
use Rattle.vortex_stats_set.specs.Known.{raw_pairs}
use Rattle.vortex_stats_set.specs.Pairs.{Pairs}
use Rattle.vortex_stats_set.specs.Merge.{merged_unordered}
use Rattle.vortex_stats_set.specs.Valid.{are_valid_for}
use Rattle.vortex_stats_laws.specs.Laws.{IsHonestOf}
use Rattle.example_catalogue.specs.declared.error.CatalogueError.{CatalogueError}
use Rattle.example_catalogue.specs.declared.error.CatalogueError.TheVariants.{Stats, Taken, Missing, Same}
use Rattle.example_catalogue.specs.Partitions.{Partitions, at_number, joined, Each}
use Rattle.example_catalogue.specs.Made.{IsMadeOf}

abbrev pub Set : Type 0
Set = List (Stat × declared.Precision ScalarValue)

-- The number was free, the set is valid for the column, and the partition is at the end.
abbrev pub IsAdded : LogicalType → Partitions Pairs → Partitions Pairs → ℕ → Set → Type 0
IsAdded k old new n set = IsNone (at_number old n) × (are_valid_for k set ≡ true) ×
    (new ≡ old ++ (n, raw_pairs set) ∷ [])

abbrev pub AddFault : LogicalType → Partitions Pairs → ℕ → Set → CatalogueError → Type 0
AddFault k old n set e = ((e ≡ Taken) × IsSome (at_number old n)) ⊎
    (((e ≡ Stats InvalidStat) × (are_valid_for k set ≡ false)) ⊎ (e ≡ Stats Memory))

-- Both were there, and the first has the merge of both.
abbrev pub IsJoined : Partitions Pairs → Partitions Pairs → ℕ → ℕ → Type 0
IsJoined old new m n = IsSome (at_number old m) × IsSome (at_number old n) ×
    (new ≡ joined (merged_unordered true) old m n)

abbrev pub IsLost : Partitions Pairs → ℕ → ℕ → CatalogueError → Type 0
IsLost old m n e = ((e ≡ Missing) × (IsNone (at_number old m) ⊎ IsNone (at_number old n))) ⊎
    (e ≡ Stats Memory)

abbrev pub JoinFault : Partitions Pairs → ℕ → ℕ → CatalogueError → Type 0
JoinFault old m n e = ((e ≡ Same) × (m ≡ n)) ⊎ IsLost old m n e

-- If the old partitions are honest of rows, the new ones are of what f makes of these.
abbrev pub KeepsHonest : Partitions Pairs → Partitions Pairs →
    (Partitions (List Content) → Partitions (List Content)) → Type 0
KeepsHonest old new f = (rows : Partitions (List Content)) → Each IsHonestOf old rows →
    Each IsHonestOf new (f rows)

-- If the old partitions are made of sets, the new ones are of what f makes of these.
abbrev pub KeepsMade : LogicalType → Partitions Pairs → Partitions Pairs →
    (Partitions (List Pairs) → Partitions (List Pairs)) → Type 0
KeepsMade k old new f = (sets : Partitions (List Pairs)) → Each (IsMadeOf k) old sets →
    Each (IsMadeOf k) new (f sets)
