-- The type of a leaf, nullability aside, by the one that it has in its record.
use Rattle.std.proofs.Common.{◌≡◌, List, IfSome, ◌<◌, ◌≤◌, ◌+◌, ◌∷◌, ℕ, length, drop, get_or, Option, Some, None, true, option_map, option_and_then, refl, sym, ap, subst, ◌∙◌}
use Rattle.std.proofs.lemmas.List.{drop_more, drop_all}
use Rattle.vortex_model.specs.LogicalType.{LogicalType, null_only, Nullability, nullable, nullability_of, nullable_inside, with_nullability}
use Rattle.vortex_model.specs.Path.{Positions, part_at, type_at}
use Rattle.vortex_model_table.specs.Scan.{kind_at}
use Rattle.vortex_model.specs.Content.{Content}
use Rattle.vortex_model.specs.Kept.{is_leaf_at}
use Rattle.vortex_model_table.specs.Statistics.{sum_of}
use Rattle.vortex_model_table.specs.Typing.{sum_kind}
use Rattle.vortex_model_table.specs.ZoneMap.{values_at}
use Rattle.vortex_model_laws.proofs.Columns.{all_at_type}
use Rattle.vortex_arrays_model.specs.Layout.{Layout, array_type_of, rows_of}
use Rattle.vortex_table_schema.proofs.LeafPlaces.{leaf_part}
use Rattle.vortex_table_chunk.specs.Rows.{HasRowsOfType}
use Rattle.vortex_stats_array.specs.declared.array_stats.ArrayStats.{ArrayStats}
use Rattle.vortex_stats_array.specs.Zones.{zone_in}
use Rattle.vortex_table_chunk.specs.zones.Bounds.{IsBoundsOf, WereBoundsOf}
use Rattle.vortex_table_chunk.specs.zones.Kinds.{HasKindsOf}
use Rattle.vortex_table_chunk.specs.zones.Sums.{kind_of_sum, is_sum_of}
use Rattle.vortex_table_chunk.specs.zones.Typed.{is_typed_as}
use Rattle.vortex_table_chunk.proofs.JoinedLemmas.{kind_there}
use Rattle.vortex_table_chunk.proofs.zones.TypeLemmas.{inside_aside, own_sum, sum_stays, as_part, typed_so}

abbrev there_aside : Option LogicalType → LogicalType
there_aside o = with_nullability nullable (elim o [ None ↦ null_only | Some t ↦ t ])

there_inside : (n : Nullability) (o : Option LogicalType) → there_aside (option_map (nullable_inside n) o) ≡ there_aside o
there_inside n None = refl
there_inside n (Some k) = inside_aside n k

abbrev pub type_aside : LogicalType → Positions → LogicalType
type_aside k is = with_nullability nullable (kind_at k is)

type_of_part : (k : LogicalType) (i : ℕ) (is : Positions) (part : LogicalType) → part_at k i ≡ Some part → type_aside part is ≡ type_aside k (i ∷ is)
type_of_part k i is part e =
    sym (ap (λ o. there_aside (option_map (nullable_inside (nullability_of k)) (option_and_then (λ p. type_at p is) o))) e
    ∙ there_inside (nullability_of k) (type_at part is))

-- one step further down
pub next_type : (k part s : LogicalType) (is js : Positions) (n i : ℕ) → n < length is → i ≡ get_or is n i → part_at k i ≡ Some part →
    type_aside k (drop n is) ≡ type_aside s js → type_aside part (drop (n + 1) is) ≡ type_aside s js
next_type k part s is js n i l e at before =
    type_of_part k i (drop (n + 1) is) part at
    ∙ ap (type_aside k) (sym (drop_more is n i l ∙ ap (λ j. j ∷ drop (n + 1) is) (sym e)))
    ∙ before

pub last_type : (k s : LogicalType) (is js : Positions) (n : ℕ) → length is ≤ n → type_aside k (drop n is) ≡ type_aside s js → with_nullability nullable k ≡ type_aside s js
last_type k s is js n l before = ap (type_aside k) (sym (drop_all n is l)) ∙ before

pub ruleset types = (next_type, last_type)

-- ---- statistics that were carried to another type

-- statistics of rows of the type, with bounds in the kind of the leaf's integers
pub carried_typed : (a : Layout) (is : Positions) (k : LogicalType) (L : ℕ) (b : ArrayStats) → is_leaf_at (array_type_of a) is ≡ true → HasRowsOfType a → with_nullability nullable k ≡ type_aside (array_type_of a) is →
    IsBoundsOf (kind_at (array_type_of a) is) L b (values_at is (rows_of a)) → HasKindsOf k b → is_typed_as (kind_at (array_type_of a) is) b ≡ true
carried_typed a is k L b leads typed same honest kinds =
    let leaf = leaf_part (array_type_of a) is leads in
    let there = kind_there (array_type_of a) is leaf.part leaf.there in
    let values = values_at is (rows_of a) in
    subst (λ t. is_typed_as t b ≡ true) (sym there)
    (typed_so k leaf.part L b values (same ∙ ap (with_nullability nullable) there) leaf.leaf (all_at_type (array_type_of a) is leaf.part (rows_of a) leaf.there typed) (subst (λ t. IsBoundsOf t L b values) there honest) kinds)

-- the same zone map with the same sum, which is of the kind of another type's sums
pub bounds_stay : (part : LogicalType) (old : ArrayStats) (o : Option ArrayStats) → kind_of_sum old.sum ≡ sum_kind part → IfSome o (λ b. zone_in b ≡ zone_in old) → IfSome o (λ b. b.sum ≡ old.sum) →
    IfSome o (λ b. (L : ℕ) (cs : List Content) → WereBoundsOf L old cs → IsBoundsOf part L b cs)
bounds_stay part old None sums zone sum = tt
bounds_stay part old (Some b) sums zone sum = λ L cs h. record {
  zone = zone ∙ as_part h.0 part L (zone_in old) cs h.1.zone (sum_stays old.sum (sum_kind h.0) (sum_kind part) (sum_of cs) (ap (λ z. z.total) h.1.zone) h.1.kind sums);
  kind = ap (is_sum_of (sum_kind part)) sum ∙ own_sum old.sum (sum_kind part) sums;
}

pub carried_where : (a : Layout) (is : Positions) (k : LogicalType) (old : ArrayStats) (o : Option ArrayStats) → with_nullability nullable k ≡ type_aside (array_type_of a) is →
    IfSome o (λ b. (L : ℕ) (cs : List Content) → WereBoundsOf L old cs → IsBoundsOf (kind_at (array_type_of a) is) L b cs) → IfSome o (λ b. HasKindsOf k b) →
    IfSome o (λ b. (L : ℕ) → HasRowsOfType a → is_leaf_at (array_type_of a) is ≡ true → WereBoundsOf L old (values_at is (rows_of a)) → is_typed_as (kind_at (array_type_of a) is) b ≡ true)
carried_where a is k old None same honest kinds = tt
carried_where a is k old (Some b) same honest kinds = λ L typed leads held. carried_typed a is k L b leads typed same (honest L (values_at is (rows_of a)) held) kinds
