-- The theorem's clauses for the results of calls.
use Rattle.std.proofs.Common.{◌≡◌, sym, subst, ℕ, List, [], ◌∷◌, ◌++◌, None, true, false, Result, Ok, Err, IfOk, OnOk}
use Rattle.std.specs.List.Sorted.{IsPermutation}
use Rattle.vortex_model.specs.LogicalType.{LogicalType}
use Rattle.vortex_model.specs.Content.{Content}
use Rattle.vortex_model_table.specs.Statistics.{IsHonest}
use Rattle.vortex_scalar_ops.specs.Equality.{has_variant}
use Rattle.vortex_stats_expr.specs.declared.error.StatsError.{StatsError}
use Rattle.vortex_stats_set.specs.Known.{raw_pairs}
use Rattle.vortex_stats_set.specs.Pairs.{Pairs}
use Rattle.vortex_stats_set.specs.Merge.{merged_unordered}
use Rattle.vortex_stats_set.specs.Said.{statistics_in}
use Rattle.vortex_stats_laws.specs.Laws.{IsHonestOf, ValidSetsCountNulls, UnorderedMergesAreHonest}
use Rattle.example_catalogue.specs.declared.error.CatalogueError.{CatalogueError}
use Rattle.example_catalogue.specs.Partitions.{Partitions, dropped, joined, between, all_between, Each}
use Rattle.example_catalogue.specs.Promises.{Set, IsAdded, IsJoined, KeepsHonest, KeepsMade}
use Rattle.example_catalogue.specs.Made.{IsMadeOf, IsAnswerOf, AreAlike, gathered, answer}
use Rattle.example_catalogue.proofs.Honesty.{honest_both, held_honest}
use Rattle.example_catalogue.proofs.Making.{valid_typed, made_of_one, made_of_both, held_answer, answers_alike}
use Rattle.example_catalogue.proofs.Pairwise.{behind, without, together, answer_held}

abbrev Outcome : Type 0
Outcome = Result (Unit {0}) CatalogueError

module _ (k : LogicalType) (old new : Partitions Pairs) where
  pub if_added_honest : (n : ℕ) (set : Set) → ValidSetsCountNulls → (r : Outcome) → OnOk r (IsAdded k old new n set) →
      OnOk r ((cs : List Content) → IsHonest (statistics_in (raw_pairs set)) cs → KeepsHonest old new (λ rows. rows ++ (n, cs) ∷ []))
  if_added_honest n set law (Err e) is = tt
  if_added_honest n set law (Ok u) is = λ cs g rows h.
      subst (λ es. Each IsHonestOf es (rows ++ (n, cs) ∷ [])) (sym is.2)
      (behind IsHonestOf old rows n (raw_pairs set) cs h (record { counted = law k set is.1; honest = g }))

  pub if_added_made : (n : ℕ) (set : Set) (r : Outcome) → OnOk r (IsAdded k old new n set) →
      OnOk r (has_variant k ≡ false → KeepsMade k old new (λ sets. sets ++ (n, raw_pairs set ∷ []) ∷ []))
  if_added_made n set (Err e) is = tt
  if_added_made n set (Ok u) is = λ plain sets h.
      subst (λ es. Each (IsMadeOf k) es (sets ++ (n, raw_pairs set ∷ []) ∷ [])) (sym is.2)
      (behind (IsMadeOf k) old sets n (raw_pairs set) (raw_pairs set ∷ []) h (made_of_one k (raw_pairs set) plain (valid_typed k set is.1)))

  pub dropped_honest : (n : ℕ) → new ≡ dropped old n → KeepsHonest old new (λ rows. dropped rows n)
  dropped_honest n is rows h = subst (λ es. Each IsHonestOf es (dropped rows n)) (sym is) (without IsHonestOf old rows n h)

  pub dropped_made : (n : ℕ) → new ≡ dropped old n → KeepsMade k old new (λ sets. dropped sets n)
  dropped_made n is sets h = subst (λ es. Each (IsMadeOf k) es (dropped sets n)) (sym is) (without (IsMadeOf k) old sets n h)

  pub if_joined_honest : (m n : ℕ) → UnorderedMergesAreHonest → (r : Outcome) → OnOk r (IsJoined old new m n) →
      OnOk r (KeepsHonest old new (λ rows. joined (λ cs ds. cs ++ ds) rows m n))
  if_joined_honest m n law (Err e) is = tt
  if_joined_honest m n law (Ok u) is = λ rows h.
      subst (λ es. Each IsHonestOf es (joined (λ cs ds. cs ++ ds) rows m n)) (sym is.2)
      (together IsHonestOf (merged_unordered true) (λ cs ds. cs ++ ds) (honest_both law) old rows m n h)

  pub if_joined_made : (m n : ℕ) (r : Outcome) → OnOk r (IsJoined old new m n) →
      OnOk r (has_variant k ≡ false → KeepsMade k old new (λ sets. joined (λ xs ys. xs ++ ys) sets m n))
  if_joined_made m n (Err e) is = tt
  if_joined_made m n (Ok u) is = λ plain sets h.
      subst (λ es. Each (IsMadeOf k) es (joined (λ xs ys. xs ++ ys) sets m n)) (sym is.2)
      (together (IsMadeOf k) (merged_unordered true) (λ xs ys. xs ++ ys) (made_of_both k plain) old sets m n h)

-- ---- asking

module _ (k : LogicalType) (es : Partitions Pairs) (from to : ℕ) where
  pub if_honest : UnorderedMergesAreHonest → (r : Result Set StatsError) → IfOk r (λ set. raw_pairs set ≡ answer (between from to es)) →
      IfOk r (λ set. (rows : Partitions (List Content)) → Each IsHonestOf es rows → IsHonest (statistics_in (raw_pairs set)) (all_between from to rows))
  if_honest law (Err e) is = tt
  if_honest law (Ok set) is = λ rows h.
      subst (λ xs. IsHonest (statistics_in xs) (all_between from to rows)) (sym is)
      (held_honest law (gathered None (between from to es)) (all_between from to rows) (answer_held IsHonestOf (honest_both law) from to es rows h))

  pub if_made : (r : Result Set StatsError) → IfOk r (λ set. raw_pairs set ≡ answer (between from to es)) →
      IfOk r (λ set. (sets : Partitions (List Pairs)) → has_variant k ≡ false → Each (IsMadeOf k) es sets →
      IsAnswerOf k (raw_pairs set) (all_between from to sets))
  if_made (Err e) is = tt
  if_made (Ok set) is = λ sets plain h.
      subst (λ xs. IsAnswerOf k xs (all_between from to sets)) (sym is)
      (held_answer k plain (gathered None (between from to es)) (all_between from to sets) (answer_held (IsMadeOf k) (made_of_both k plain) from to es sets h))

pub both_alike : (k l : LogicalType) (es ds : Partitions Pairs) (from to : ℕ) (xs ys : Pairs) →
    ((sets : Partitions (List Pairs)) → has_variant k ≡ false → Each (IsMadeOf k) es sets → IsAnswerOf k xs (all_between from to sets)) →
    ((sets : Partitions (List Pairs)) → has_variant l ≡ false → Each (IsMadeOf l) ds sets → IsAnswerOf l ys (all_between from to sets)) →
    (sets others : Partitions (List Pairs)) → has_variant k ≡ false → has_variant l ≡ false → Each (IsMadeOf k) es sets → Each (IsMadeOf l) ds others →
    IsPermutation (all_between from to sets) (all_between from to others) → AreAlike xs ys
both_alike k l es ds from to xs ys made other sets others plain also h g order =
    answers_alike k l xs ys (all_between from to sets) (all_between from to others) order (made sets plain h) (other others also g)
