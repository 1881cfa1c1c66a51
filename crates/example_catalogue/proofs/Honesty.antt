-- Honest partitions.
use Rattle.std.proofs.Common.{refl, sym, subst, List, [], ◌++◌, Option, Some, None, true}
use Rattle.std.proofs.lemmas.List.Sorted.{IsPermutation-refl}
use Rattle.vortex_model.specs.Content.{Content}
use Rattle.vortex_model_table.specs.Statistics.{IsHonest}
use Rattle.vortex_stats_set.specs.Pairs.{Pairs}
use Rattle.vortex_stats_set.specs.Merge.{merged_unordered}
use Rattle.vortex_stats_set.specs.Said.{statistics_in}
use Rattle.vortex_stats_laws.specs.Laws.{IsHonestOf, UnorderedMergesAreHonest}
use Rattle.example_catalogue.specs.Made.{answered, no_rows}
use Rattle.example_catalogue.proofs.Pairwise.{Held}

pub honest_both : UnorderedMergesAreHonest → (xs ys : Pairs) (cs ds : List Content) → IsHonestOf xs cs → IsHonestOf ys ds → IsHonestOf (merged_unordered true xs ys) (cs ++ ds)
honest_both law xs ys cs ds h g = law xs ys cs ds (cs ++ ds) (IsPermutation-refl (cs ++ ds)) h g

none_honest : IsHonest (statistics_in no_rows) []
none_honest = record {
  least = tt;
  greatest = tt;
  total = tt;
  nulls = refl;
  nans = tt;
  constant = tt;
  sorted = tt;
  strictly_sorted = tt;
}

pub held_honest : (law : UnorderedMergesAreHonest) (m : Option Pairs) (cs : List Content) → Held IsHonestOf (honest_both law) m cs → IsHonest (statistics_in (answered m)) cs
held_honest law None cs h = subst (IsHonest (statistics_in no_rows)) (sym h) none_honest
held_honest law (Some xs) cs h = h.honest
