-- Whose statistics groups have: those of both sides of a join, and those of their chunks in order.
use Rattle.std.proofs.Common.{◌≡◌, refl, sym, ◌∙◌, ap, ℕ, zero, suc, ◌<◌, List, [], ◌∷◌, length, map, take, drop, get_or, true, Option, Some, None, option_map, arith}
use Rattle.std.specs.Prelude.{slice_get, option_and_then}
use Rattle.std.specs.Coded.{Coded-set}
use Rattle.std.specs.List.{AllByRecursion, list_all}
use Rattle.std.proofs.Math.Logic.{∥∥₁_elim, ∥∥₁_map}
use Rattle.std.proofs.Math.Seq.{drop-cons}
use Rattle.std.proofs.lemmas.List.Elements.{All-from_recursion}
use Rattle.std.specs.Cmp.{first_so}
use Rattle.vortex_model.specs.LogicalType.{LogicalType}
use Rattle.vortex_model.specs.Content.{Content}
use Rattle.vortex_model.specs.Path.{Positions}
use Rattle.vortex_model.specs.Valid.{IsContent}
use Rattle.vortex_table_schema.specs.Leaves.{leaf_positions}
use Rattle.vortex_table_chunk.specs.Bounds.{coded_zone}
use Rattle.vortex_table_chunk.specs.BoundStat.{bounds_at}
use Rattle.vortex_table_chunk.specs.Chunk.{chunk_rows}
use Rattle.vortex_table_chunk.specs.Formed.{is_formed}
use Rattle.vortex_table_chunk.specs.Joined.{IsJoined, AreJoined}
use Rattle.vortex_table_chunk.specs.zones.Join.{IsJoinOf, AreJoinsOf}
use Rattle.vortex_table_chunk.specs.declared.chunk.Chunk.{Chunk}
use Rattle.vortex_stats_array.specs.declared.array_stats.ArrayStats.{ArrayStats}
use Rattle.vortex_table_chunk.proofs.JoinedLemmas.{neighbours}
use Rattle.vortex_table_layout.specs.InOrder.{AreInOrder}
use Rattle.vortex_table_layout.proofs.InOrder.{alone_in_order}
use Rattle.vortex_table_core.specs.Group.{chunks_of}
use Rattle.vortex_table_core.specs.Retyped.{HasOrdered, AreRegrouped}
use Rattle.vortex_table_core.specs.Statistics.{statistics_by, statistics_in, IsMerged, AreMerged, AreMergedAt, AreMergedInOrder}
use Rattle.vortex_table_core.specs.declared.group.Group.{Group}
use Rattle.vortex_table_core.proofs.Groups.{formed_in}
use Rattle.vortex_table_core.proofs.JoinedGroups.{with_one}

nothing : ∥ ⊥ ∥₁ → ⊥
nothing h = ∥∥₁_elim h (λ p q. absurd p) (λ x. x)

-- ---- the statistics of a group of one chunk

at_front : (n : ℕ) (c : Chunk) (rest : List Chunk) → 0 < n → statistics_by None (take n (c ∷ rest)) ≡ c.bounds.items
at_front zero c rest h = absurd (omega (arith, h))
at_front (suc n) c rest h = refl

pub of_one : (chunks : List Chunk) (g : Group) (c : Chunk) → option_map (λ v. v.items) g.joined ≡ None → 0 < g.chunks → g.first < length chunks → c ≡ get_or chunks g.first c → c.bounds.items ≡ statistics_in chunks g
of_one chunks g c none some inside is =
    sym (ap (λ o. statistics_by o (chunks_of chunks g)) none
    ∙ ap (λ cs. statistics_by None (take g.chunks cs)) (drop-cons chunks g.first c inside ∙ ap (λ x. x ∷ drop (suc g.first) chunks) (sym is))
    ∙ at_front g.chunks c (drop (suc g.first) chunks) some)

-- ---- joins

module _ (k : LogicalType) (L : Positions → ℕ) (xs ys : List (List Content)) (front : AllByRecursion (λ chunk. AllByRecursion (IsContent k) chunk) xs) (back : AllByRecursion (λ chunk. AllByRecursion (IsContent k) chunk) ys) where
  one_merged : (is : Positions) (a b both : ArrayStats) → ∥ IsJoined k L is a xs ∥₁ → ∥ IsJoined k L is b ys ∥₁ → IsJoinOf a b both → IsMerged k is a b both
  one_merged is a b both h g j = λ part leaf.
      ∥∥₁_elim h (Coded-set coded_zone _ _) (λ p. ∥∥₁_elim g (Coded-set coded_zone _ _) (λ q. j.zone part (neighbours k L xs ys front back is a b p q part leaf)))

  pub all_merged : (leaves : List Positions) (left right all : List ArrayStats) → ∥ AreJoined k L leaves left xs ∥₁ → ∥ AreJoined k L leaves right ys ∥₁ → AreJoinsOf left right all → AreMerged k leaves left right all
  all_merged [] [] [] [] h g j = tt
  all_merged (is ∷ leaves) (a ∷ left) (b ∷ right) (c ∷ all) h g j = (
    one_merged is a b c (∥∥₁_map h (λ p. p.0)) (∥∥₁_map g (λ q. q.0)) j.0,
    all_merged leaves left right all (∥∥₁_map h (λ p. p.1)) (∥∥₁_map g (λ q. q.1)) j.1,
  )
  all_merged [] [] [] (c ∷ all) h g j = absurd j
  all_merged [] [] (b ∷ right) all h g j = absurd (nothing g)
  all_merged [] (a ∷ left) right all h g j = absurd (nothing h)
  all_merged (is ∷ leaves) [] right all h g j = absurd (nothing h)
  all_merged (is ∷ leaves) (a ∷ left) [] all h g j = absurd (nothing g)
  all_merged (is ∷ leaves) (a ∷ left) (b ∷ right) [] h g j = absurd j

-- the groups with one in place of two
pub merged_at : (k : LogicalType) (L : Positions → ℕ) (chunks : List Chunk) (j : ℕ) (g : Group) (groups : List Group) → suc j < length groups →
    AreMerged k (leaf_positions k) (statistics_in chunks (get_or groups j g)) (statistics_in chunks (get_or groups (suc j) g)) (statistics_in chunks g) →
    AreMergedAt k j (map (statistics_in chunks) groups) (map (statistics_in chunks) (with_one k L chunks j g groups))
merged_at k L chunks zero g [] inside h = absurd (omega (arith, inside))
merged_at k L chunks zero g (a ∷ []) inside h = absurd (omega (arith, inside))
merged_at k L chunks zero g (a ∷ b ∷ groups) inside h = (h, refl)
merged_at k L chunks (suc j) g [] inside h = absurd (omega (arith, inside))
merged_at k L chunks (suc j) g (x ∷ groups) inside h = (refl, merged_at k L chunks j g groups (omega (arith, inside)) h)

-- ---- retypings

module _ (k : LogicalType) (L : Positions → ℕ) where
  in_order : (leaves : List Positions) (bounds : List ArrayStats) (rows : List (List Content)) → ∥ AreInOrder k L leaves bounds rows ∥₁ → AreInOrder k L leaves bounds rows
  in_order [] [] rows h = tt
  in_order (is ∷ leaves) (b ∷ bounds) rows h =
      ((λ part leaf. ∥∥₁_elim h (Coded-set coded_zone _ _) (λ p. p.0 part leaf)), in_order leaves bounds rows (∥∥₁_map h (λ p. p.1)))
  in_order [] (b ∷ bounds) rows h = absurd (nothing h)
  in_order (is ∷ leaves) [] rows h = absurd (nothing h)

  ordered : (o : Option (List ArrayStats)) (own : List Chunk) → list_all (is_formed L k) own ≡ true → HasOrdered k L o own → AreInOrder k L (leaf_positions k) (statistics_by o own) (map chunk_rows own)
  ordered None [] f h = absurd (omega (arith, h))
  ordered None (c ∷ []) f h = (alone_in_order k L c (first_so (is_formed L k c) true f)).1
  ordered None (c ∷ d ∷ rest) f h = absurd (omega (arith, h))
  ordered (Some bounds) own f h = in_order (leaf_positions k) bounds (map chunk_rows own) (∥∥₁_map h.1 (λ p. p.1))

  each : (chunks : List Chunk) → list_all (is_formed L k) chunks ≡ true → (old new : List Group) → AreRegrouped k L chunks old new →
      AllByRecursion (λ (g : Group). AreInOrder k L (leaf_positions k) (statistics_in chunks g) (map chunk_rows (chunks_of chunks g))) new
  each chunks f [] [] h = tt
  each chunks f (g ∷ old) (x ∷ new) h = (ordered (option_map (λ v. v.items) x.joined) (chunks_of chunks x) (formed_in (is_formed L k) x chunks f) h.0.statistics, each chunks f old new h.1)
  each chunks f [] (x ∷ new) h = absurd h
  each chunks f (g ∷ old) [] h = absurd h

  pub groups_in_order : (chunks : List Chunk) → list_all (is_formed L k) chunks ≡ true → (old new : List Group) → AreRegrouped k L chunks old new → AreMergedInOrder k L chunks new
  groups_in_order chunks f old new h =
      All-from_recursion (λ (g : Group). AreInOrder k L (leaf_positions k) (statistics_in chunks g) (map chunk_rows (chunks_of chunks g))) new (each chunks f old new h)

-- ---- descriptions

at_place : {X Y : Type 0} (f : X → Y) (xs : List X) (i : ℕ) (x : X) → i < length xs → x ≡ get_or xs i x → slice_get (map f xs) i ≡ Some (f x)
at_place f [] i x inside is = absurd (omega (arith, inside))
at_place f (y ∷ xs) zero x inside is = ap (λ z. Some (f z)) (sym is)
at_place f (y ∷ xs) (suc i) x inside is = at_place f xs i x (omega (arith, inside)) is

pub found_at : (leaves : List Positions) (is : Positions) (chunks : List Chunk) (groups : List Group) (i : ℕ) (g : Group) (bounds : List ArrayStats) (b : ArrayStats) → i < length groups → g ≡ get_or groups i g →
    bounds ≡ statistics_in chunks g → bounds_at leaves bounds is ≡ Some b → option_and_then (λ own. bounds_at leaves own is) (slice_get (map (statistics_in chunks) groups) i) ≡ Some b
found_at leaves is chunks groups i g bounds b inside at_i own found =
    ap (option_and_then (λ x. bounds_at leaves x is)) (at_place (statistics_in chunks) groups i g inside at_i)
    ∙ ap (λ x. bounds_at leaves x is) (sym own) ∙ found
