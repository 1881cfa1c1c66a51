-- What the calls on a catalogue promise.
use Rattle.std.specs.Prelude.{◌≡◌, ◌++◌, ◌∷◌, [], ℕ, List, false, Result, IfErr, OnOk, OnErr}
use Rattle.std.specs.List.Sorted.{IsPermutation}
use Rattle.vortex_model.specs.Content.{Content}
use Rattle.vortex_model_table.specs.Statistics.{IsHonest}
use Rattle.vortex_scalar_ops.specs.Equality.{has_variant}
use Rattle.vortex_stats_set.specs.Known.{raw_pairs}
use Rattle.vortex_stats_set.specs.Pairs.{Pairs}
use Rattle.vortex_stats_set.specs.Said.{statistics_in}
use Rattle.vortex_stats_laws.specs.Laws.{IsHonestOf}
use Rattle.example_catalogue.specs.declared.catalogue.Catalogue.{Catalogue}
use Rattle.example_catalogue.specs.declared.error.CatalogueError.{CatalogueError}
use Rattle.example_catalogue.specs.Catalogued.{partitions, kind}
use Rattle.example_catalogue.specs.Partitions.{Partitions, joined, all_between, Each}
use Rattle.example_catalogue.specs.Made.{IsMadeOf, IsAnswerOf, AreAlike}
use Rattle.example_catalogue.specs.Promises.{Set, IsAdded, AddFault, IsJoined, JoinFault, KeepsHonest, KeepsMade}

abbrev pub Outcome : Type 0
Outcome = Result (Unit {0}) CatalogueError

module _ (old new : Catalogue) where
  module _ (n : ℕ) (set : Set) (r : Outcome) where
    pub record Adds : Type 0 where
      pub same_kind : kind new ≡ kind old
      pub ok : OnOk r (IsAdded (kind old) (partitions old) (partitions new) n set)
      pub err : OnErr r (partitions new ≡ partitions old)
      pub refused : IfErr r (AddFault (kind old) (partitions old) n set)

    -- honest of the rows before and of those of the new partition, where its set is of them
    abbrev pub AddsRows : Type 0
    AddsRows = OnOk r ((cs : List Content) → IsHonest (statistics_in (raw_pairs set)) cs →
        KeepsHonest (partitions old) (partitions new) (λ rows. rows ++ (n, cs) ∷ []))

    -- made of the sets before and of this one
    abbrev pub AddsSet : Type 0
    AddsSet = OnOk r (has_variant (kind old) ≡ false →
        KeepsMade (kind old) (partitions old) (partitions new) (λ sets. sets ++ (n, raw_pairs set ∷ []) ∷ []))

  module _ (m n : ℕ) (r : Outcome) where
    pub record Joins : Type 0 where
      pub same_kind : kind new ≡ kind old
      pub ok : OnOk r (IsJoined (partitions old) (partitions new) m n)
      pub err : OnErr r (partitions new ≡ partitions old)
      pub refused : IfErr r (JoinFault (partitions old) m n)

    -- honest of the rows of both together
    abbrev pub JoinsRows : Type 0
    JoinsRows = OnOk r (KeepsHonest (partitions old) (partitions new) (λ rows. joined (λ cs ds. cs ++ ds) rows m n))

    -- made of the sets of both together
    abbrev pub JoinsSets : Type 0
    JoinsSets = OnOk r (has_variant (kind old) ≡ false →
        KeepsMade (kind old) (partitions old) (partitions new) (λ sets. joined (λ xs ys. xs ++ ys) sets m n))

module _ (c : Catalogue) (from to : ℕ) where
  -- The set is honest of all rows of the range, where each partition is of its own.
  abbrev pub TellsRows : Set → Type 0
  TellsRows set = (rows : Partitions (List Content)) → Each IsHonestOf (partitions c) rows →
      IsHonest (statistics_in (raw_pairs set)) (all_between from to rows)

  -- The set is made of all sets of the range.
  abbrev pub TellsSets : Set → Type 0
  TellsSets set = (sets : Partitions (List Pairs)) → has_variant (kind c) ≡ false → Each (IsMadeOf (kind c)) (partitions c) sets →
      IsAnswerOf (kind c) (raw_pairs set) (all_between from to sets)

  -- What both have is alike, where the partitions of the range are made of the same sets.
  abbrev pub TellAlike : Catalogue → Set → Set → Type 0
  TellAlike d xs ys = (sets others : Partitions (List Pairs)) →
      has_variant (kind c) ≡ false →
      has_variant (kind d) ≡ false →
      Each (IsMadeOf (kind c)) (partitions c) sets →
      Each (IsMadeOf (kind d)) (partitions d) others →
      IsPermutation (all_between from to sets) (all_between from to others) →
      AreAlike (raw_pairs xs) (raw_pairs ys)
