-- The statistics of a chunk as a group's, and those of two neighbouring groups as one's.
use Rattle.std.proofs.Common.{◌≡◌, refl, sym, ◌∙◌, ap, subst, ℕ, ◌+◌, ◌<◌, ◌^◌, List, [], ◌∷◌, ◌++◌, length, map, true, Some, None, arith}
use Rattle.std.specs.Prelude.{sum}
use Rattle.std.specs.Coded.{×_prop, Unit-prop, le_prop}
use Rattle.std.specs.List.{AllByRecursion}
use Rattle.std.proofs.Math.Logic.{∥∥₁_elim, ∥∥₁_map, ∥∥₁_prop}
use Rattle.std.proofs.lemmas.List.{length-map, map-append}
use Rattle.std.proofs.lemmas.List.Sums.{sum_by-append, count_by-le-length}
use Rattle.std.specs.Cmp.{first_so, second_so}
use Rattle.vortex_model.specs.LogicalType.{LogicalType, null_only}
use Rattle.vortex_model.specs.Content.{Content, is_null}
use Rattle.vortex_model.specs.Valid.{IsContent}
use Rattle.vortex_model.specs.Path.{Positions, type_at, at}
use Rattle.vortex_model_table.specs.Scan.{kind_at}
use Rattle.vortex_model_table.specs.Typing.{sum_kind}
use Rattle.vortex_model_table.specs.Statistics.{null_count_of}
use Rattle.vortex_model_table.specs.ZoneMap.{zone_of, values_at, value_in, alone, together, joined}
use Rattle.vortex_model_laws.proofs.LeafOrder.{bounds_of_column}
use Rattle.vortex_model_laws.proofs.Described.{all_of_type}
use Rattle.vortex_stats_array.specs.declared.array_stats.ArrayStats.{ArrayStats}
use Rattle.vortex_stats_array.specs.Zones.{bound_content, zone_in}
use Rattle.vortex_table_chunk.specs.zones.Bounds.{IsBoundsOf}
use Rattle.vortex_table_chunk.specs.zones.Sums.{is_sum_of}
use Rattle.vortex_table_chunk.specs.zones.Typed.{is_typed_as}
use Rattle.vortex_table_chunk.specs.zones.Join.{AreNeighbours, IsJoinOf, HaveCounts, CanJoin, AreJoinsOf}
use Rattle.vortex_table_chunk.specs.Bounds.{AreBoundsOf, are_typed_at}
use Rattle.vortex_table_chunk.specs.Joined.{IsLeafAt, IsJoined, AreJoined, rows_in}
use Rattle.vortex_table_chunk.proofs.zones.TypeLemmas.{typed_sum}
use Rattle.vortex_table_chunk.proofs.zones.Forms.{FormIn, both_compare, group_low_form, group_high_form}

-- ---- counts

pub rows_append : (xs ys : List (List Content)) → rows_in xs + rows_in ys ≡ rows_in (xs ++ ys)
rows_append xs ys = sym (ap sum (map-append length xs ys) ∙ sum_by-append (λ n. n) (map length xs) (map length ys))

one_row_count : (n : ℕ) → sum (n ∷ []) ≡ n
one_row_count n = let e : 0 + n ≡ n = omega arith in e

pub kind_there : (k : LogicalType) (is : Positions) (part : LogicalType) → type_at k is ≡ Some part → kind_at k is ≡ part
kind_there k is part e = ap (λ o. elim o [ None ↦ null_only | Some t ↦ t ]) e

-- ---- one chunk

module _ (k : LogicalType) (L : Positions → ℕ) (rows : List Content) (typed : AllByRecursion (IsContent k) rows) where
  column_length : (is : Positions) → rows_in (rows ∷ []) ≡ length (values_at is rows)
  column_length is = one_row_count (length rows) ∙ sym (length-map rows (λ row. at row is))

  -- the statistics of a leaf are its zone map
  pub one_zone : (is : Positions) (b : ArrayStats) → IsBoundsOf (kind_at k is) (L is) b (values_at is rows) → (part : LogicalType) → IsLeafAt k is part → zone_of part (L is) (values_at is rows) ≡ zone_in b
  one_zone is b honest part leaf = sym (honest.zone ∙ ap (λ t. zone_of t (L is) (values_at is rows)) (kind_there k is part leaf.there))

  one_joined : (is : Positions) (b : ArrayStats) → IsBoundsOf (kind_at k is) (L is) b (values_at is rows) → is_typed_as (kind_at k is) b ≡ true → IsJoined k L is b (rows ∷ [])
  one_joined is b honest types = record {
    made = λ part leaf. (alone (zone_of part (L is) (values_at is rows)), refl, one_zone is b honest part leaf);
    nulls = (
        let count = count_by-le-length is_null (values_at is rows) in let same = column_length is in let kept : b.null_count ≡ null_count_of (values_at is rows) = ap (λ z. z.nulls) honest.zone in
        omega (arith, count, same, kept));
    rows = ap (λ z. z.rows) honest.zone ∙ sym (column_length is);
    types = types;
  }

  pub chunk_joined : (leaves : List Positions) (bounds : List ArrayStats) → AreBoundsOf k (map L leaves) leaves bounds rows → are_typed_at k leaves bounds ≡ true → AreJoined k L leaves bounds (rows ∷ [])
  chunk_joined [] [] h g = tt
  chunk_joined [] (b ∷ bounds) h g = absurd h
  chunk_joined (is ∷ leaves) [] h g = absurd h
  chunk_joined (is ∷ leaves) (b ∷ bounds) h g =
      let own = is_typed_as (kind_at k is) b in (
        one_joined is b h.0 (first_so own (are_typed_at k leaves bounds) g),
        chunk_joined leaves bounds h.1 (second_so own (are_typed_at k leaves bounds) g),
      )

-- ---- two neighbours

module _ (k : LogicalType) (L : Positions → ℕ) (xs ys : List (List Content)) (front : AllByRecursion (λ chunk. AllByRecursion (IsContent k) chunk) xs) (back : AllByRecursion (λ chunk. AllByRecursion (IsContent k) chunk) ys) where
  -- the statistics of both are of one column
  pub neighbours : (is : Positions) (a b : ArrayStats) → IsJoined k L is a xs → IsJoined k L is b ys → (part : LogicalType) → IsLeafAt k is part → AreNeighbours part a b
  neighbours is a b left right part leaf =
      let p = left.made part leaf in let q = right.made part leaf in
      let us = map (values_at is) xs in let vs = map (values_at is) ys in
      let typed_us = all_of_type k is part xs leaf.there front in let typed_vs = all_of_type k is part ys leaf.there back in
      let has_us = bounds_of_column part (L is) us p.0 leaf.leaf typed_us p.1 in
      let has_vs = bounds_of_column part (L is) vs q.0 leaf.leaf typed_vs q.1 in
      let low_a : FormIn part (value_in (bound_content a.min)) = subst (λ x. FormIn part (value_in x)) (sym has_us.low ∙ ap (λ z. z.low) p.2) (group_low_form part (L is) leaf.leaf us typed_us) in
      let low_b : FormIn part (value_in (bound_content b.min)) = subst (λ x. FormIn part (value_in x)) (sym has_vs.low ∙ ap (λ z. z.low) q.2) (group_low_form part (L is) leaf.leaf vs typed_vs) in
      let high_a : FormIn part (value_in (bound_content a.max)) = subst (λ x. FormIn part (value_in x)) (sym has_us.high ∙ ap (λ z. z.high) p.2) (group_high_form part (L is) leaf.leaf us typed_us) in
      let high_b : FormIn part (value_in (bound_content b.max)) = subst (λ x. FormIn part (value_in x)) (sym has_vs.high ∙ ap (λ z. z.high) q.2) (group_high_form part (L is) leaf.leaf vs typed_vs) in record {
        lows = both_compare part (bound_content a.min) (bound_content b.min) low_a low_b;
        highs = both_compare part (bound_content a.max) (bound_content b.max) high_a high_b;
        sums = ap (λ t. is_sum_of (sum_kind t) a.sum) (sym (kind_there k is part leaf.there)) ∙ typed_sum (kind_at k is) a left.types;
      }

  two_joined : (is : Positions) (a b j : ArrayStats) → IsJoined k L is a xs → IsJoined k L is b ys → IsJoinOf a b j → IsJoined k L is j (xs ++ ys)
  two_joined is a b j left right both = record {
    made = λ part leaf. (
        let p = left.made part leaf in let q = right.made part leaf in
        let us = map (values_at is) xs in let vs = map (values_at is) ys in
        let near = neighbours is a b left right part leaf in (
          together p.0 q.0,
          (λ i. p.1 i ++ q.1 i) ∙ sym (ap (map (zone_of part (L is))) (map-append (values_at is) xs ys) ∙ map-append (zone_of part (L is)) us vs),
          (λ i. joined part (p.2 i) (q.2 i)) ∙ sym (both.zone part near),
        ));
    nulls = (
        let first = left.nulls in let second = right.nulls in let added = both.nulls in let all = rows_append xs ys in
        omega (arith, first, second, added, all));
    rows = both.rows ∙ (λ i. left.rows i + right.rows i) ∙ rows_append xs ys;
    types = both.types (kind_at k is) left.types right.types;
  }

  pub all_joined_up : (leaves : List Positions) (left right all : List ArrayStats) → AreJoined k L leaves left xs → AreJoined k L leaves right ys → AreJoinsOf left right all → AreJoined k L leaves all (xs ++ ys)
  all_joined_up [] [] [] [] h g j = tt
  all_joined_up (is ∷ leaves) (a ∷ left) (b ∷ right) (c ∷ all) h g j = (two_joined is a b c h.0 g.0 j.0, all_joined_up leaves left right all h.1 g.1 j.1)
  all_joined_up [] [] [] (c ∷ all) h g j = absurd j
  all_joined_up [] [] (b ∷ right) all h g j = absurd g
  all_joined_up [] (a ∷ left) right all h g j = absurd h
  all_joined_up (is ∷ leaves) [] right all h g j = absurd h
  all_joined_up (is ∷ leaves) (a ∷ left) [] all h g j = absurd g
  all_joined_up (is ∷ leaves) (a ∷ left) (b ∷ right) [] h g j = absurd j

  pub groups_joined : (leaves : List Positions) (left right all : List ArrayStats) → ∥ AreJoined k L leaves left xs ∥₁ → ∥ AreJoined k L leaves right ys ∥₁ → AreJoinsOf left right all →
      ∥ AreJoined k L leaves all (xs ++ ys) ∥₁
  groups_joined leaves left right all h g j = ∥∥₁_elim h ∥∥₁_prop (λ p. ∥∥₁_map g (λ q. all_joined_up leaves left right all p q j))

-- ---- counts that can be added

HaveCounts-prop : (a b : ArrayStats) → IsProp (HaveCounts a b)
HaveCounts-prop a b = λ p q i. record { nulls = le_prop p.nulls q.nulls i; rows = le_prop p.rows q.rows i }

CanJoin-prop : (left right : List ArrayStats) → IsProp (CanJoin left right)
CanJoin-prop [] [] = Unit-prop
CanJoin-prop (a ∷ left) (b ∷ right) = ×_prop (HaveCounts-prop a b) (CanJoin-prop left right)
CanJoin-prop left right = λ p q. absurd p

both_count : (k : LogicalType) (L : Positions → ℕ) (xs ys : List (List Content)) → rows_in xs + rows_in ys < 2 ^ 64 → (is : Positions) (a b : ArrayStats) → IsJoined k L is a xs → IsJoined k L is b ys → HaveCounts a b
both_count k L xs ys few is a b h g = record {
  nulls = (let p = h.nulls in let q = g.nulls in omega (arith, few, p, q));
  rows = (let p = h.rows in let q = g.rows in omega (arith, few, p, q));
}

can_join : (k : LogicalType) (L : Positions → ℕ) (xs ys : List (List Content)) → rows_in xs + rows_in ys < 2 ^ 64 → (leaves : List Positions) (left right : List ArrayStats) →
    AreJoined k L leaves left xs → AreJoined k L leaves right ys → CanJoin left right
can_join k L xs ys few [] [] [] h g = tt
can_join k L xs ys few (is ∷ leaves) (a ∷ left) (b ∷ right) h g =
    (both_count k L xs ys few is a b h.0 g.0, can_join k L xs ys few leaves left right h.1 g.1)
can_join k L xs ys few [] [] (b ∷ right) h g = absurd g
can_join k L xs ys few [] (a ∷ left) right h g = absurd h
can_join k L xs ys few (is ∷ leaves) [] right h g = absurd h
can_join k L xs ys few (is ∷ leaves) (a ∷ left) [] h g = absurd g

pub groups_can_join : (k : LogicalType) (L : Positions → ℕ) (xs ys : List (List Content)) (leaves : List Positions) (left right : List ArrayStats) → rows_in xs + rows_in ys < 2 ^ 64 →
    ∥ AreJoined k L leaves left xs ∥₁ → ∥ AreJoined k L leaves right ys ∥₁ → CanJoin left right
groups_can_join k L xs ys leaves left right few h g =
    ∥∥₁_elim h (CanJoin-prop left right) (λ p. ∥∥₁_elim g (CanJoin-prop left right) (λ q. can_join k L xs ys few leaves left right p q))
