-- The description of a leaf column of a group, by the group's statistics.
use Rattle.std.proofs.Common.{◌≡◌, refl, sym, ◌∙◌, ap, subst, ℕ, zero, suc, ◌+◌, ◌<◌, List, [], ◌∷◌, ◌++◌, length, map, flat_map, take, drop, get_or, true, Some, None, ◌⊎◌, inl, inr, arith}
use Rattle.std.specs.Prelude.{slice_get, is_some}
use Rattle.std.specs.Coded.{Coded, Coded-set, coded_ℕ, coded_ℤ, coded_bool}
use Rattle.std.specs.List.{AllByRecursion, list_all}
use Rattle.std.proofs.Math.Logic.{∥∥₁_elim, ∥∥₁_map}
use Rattle.std.proofs.lemmas.List.{map-append}
use Rattle.vortex_model.specs.LogicalType.{LogicalType, null_only}
use Rattle.vortex_model.specs.Content.{Content}
use Rattle.vortex_model.specs.Valid.{IsContent}
use Rattle.vortex_model.specs.Kept.{is_leaf}
use Rattle.vortex_model.specs.Path.{Positions, type_at}
use Rattle.vortex_model.proofs.Lists.{map_twice}
use Rattle.vortex_model_table.specs.Statistics.{Precision, exact, inexact, absent, sum_of}
use Rattle.vortex_model_table.specs.ZoneMap.{ZoneMap, zone_of, values_at, group_low, group_high, group_nulls, IsGroupTotal, IsGroupConstancy}
use Rattle.vortex_model_table.specs.Table as model
use Rattle.vortex_model_table.specs.Scan.{kind_at, grouped}
use Rattle.vortex_model_table.specs.Reply.{chunks_of_group, chunk_zones, Describes}
use Rattle.vortex_model_laws.proofs.LeafOrder.{bounds_of_column}
use Rattle.vortex_model_laws.proofs.Joined.{joins_total, joins_constancy}
use Rattle.vortex_model_laws.proofs.Described.{all_of_type}
use Rattle.vortex_dtype_core.specs.View.{type_of}
use Rattle.vortex_table_schema.specs.Leaves.{leaf_positions}
use Rattle.vortex_table_schema.proofs.Places.{leaf_there}
use Rattle.vortex_table_chunk.specs.BoundCode.{coded_precision, coded_bound}
use Rattle.vortex_table_chunk.specs.BoundStat.{bounds_at}
use Rattle.vortex_table_chunk.specs.Chunk.{chunk_rows}
use Rattle.vortex_table_chunk.specs.Joined.{IsJoined, AreJoined}
use Rattle.vortex_stats_array.specs.Zones.{zone_in}
use Rattle.vortex_table_chunk.specs.declared.chunk.Chunk.{Chunk}
use Rattle.vortex_stats_array.specs.declared.array_stats.ArrayStats.{ArrayStats}
use Rattle.vortex_table_chunk.proofs.JoinedLeaves.{FoundJoined, found_joined}
use Rattle.vortex_table_core.specs.Group.{IsGroup, AreGroups, chunks_of}
use Rattle.vortex_table_chunk.specs.Formed.{is_formed}
use Rattle.vortex_table_core.specs.TableView.{table_of}
use Rattle.vortex_table_core.specs.declared.group.Group.{Group}
use Rattle.vortex_table_core.specs.declared.table.Table.{Table}
use Rattle.vortex_table_core.proofs.Groups.{take_said, drop_said, drop_on, formed_in}
use Rattle.vortex_table_core.proofs.JoinedGroups.{group_at}
use Rattle.vortex_table_schema.specs.Lengths.{length_in}
use Rattle.vortex_table_chunk.proofs.TypedRows.{all_said}

-- ---- one description of what is only known to be there

-- missing or right, where it is known that it is one of both
one_of_both : {A : Type 0} → Coded A → (p s : Precision A) → ∥ (p ≡ absent) ⊎ (p ≡ s) ∥₁ → (p ≡ absent) ⊎ (p ≡ s)
one_of_both coded absent s h = inl refl
one_of_both coded (exact a) s h = inr (∥∥₁_elim h (Coded-set (coded_precision coded) _ _) there)
  where
    there : (exact a ≡ absent) ⊎ (exact a ≡ s) → exact a ≡ s
    there (inl e) = absurd (cc (e))
    there (inr e) = e
one_of_both coded (inexact a) s h = inr (∥∥₁_elim h (Coded-set (coded_precision coded) _ _) there)
  where
    there : (inexact a ≡ absent) ⊎ (inexact a ≡ s) → inexact a ≡ s
    there (inl e) = absurd (cc (e))
    there (inr e) = e

described_once : (t : model.Table) (is : Positions) (i : ℕ) (z : ZoneMap) → ∥ Describes t is i z ∥₁ → Describes t is i z
described_once t is i z h = record {
  low = ∥∥₁_elim h (Coded-set coded_bound _ _) (λ d. d.low);
  high = ∥∥₁_elim h (Coded-set coded_bound _ _) (λ d. d.high);
  nulls = ∥∥₁_elim h (Coded-set coded_ℕ _ _) (λ d. d.nulls);
  total = record {
    honest = one_of_both coded_ℤ z.total _ (∥∥₁_map h (λ d. d.total.honest));
    exact_where_each_run_fits = λ k e f. ∥∥₁_elim h (Coded-set (coded_precision coded_ℤ) _ _) (λ d. d.total.exact_where_each_run_fits k e f);
  };
  constant = record {
    honest = one_of_both coded_bool z.constant _ (∥∥₁_map h (λ d. d.constant.honest));
    exact_where_the_chunks_show_it = λ e. ∥∥₁_elim h (Coded-set (coded_precision coded_bool) _ _) (λ d. d.constant.exact_where_the_chunks_show_it e);
  };
}

-- ---- the columns of chunks

values_together : (is : Positions) (chunks : List (List Content)) → flat_map (λ column. column) (map (values_at is) chunks) ≡ values_at is (flat_map (λ chunk. chunk) chunks)
values_together is [] = refl
values_together is (chunk ∷ chunks) =
    ap (λ cs. values_at is chunk ++ cs) (values_together is chunks) ∙ sym (map-append _ chunk (flat_map (λ c. c) chunks))

module _ (t : model.Table) (is : Positions) (part : LogicalType) (i : ℕ) (chunks : List (List Content)) (there : type_at t.kind is ≡ Some part) (leaf : is_leaf part ≡ true)
    (typed : AllByRecursion (λ chunk. AllByRecursion (IsContent t.kind) chunk) chunks) (own : chunks_of_group t i ≡ chunks) where
  abbrev L : ℕ
  L = model.bound_length t is

  abbrev columns : List (List Content)
  columns = map (values_at is) chunks

  part_is : part ≡ kind_at t.kind is
  part_is = sym (ap (λ o. elim o [ None ↦ null_only | Some k ↦ k ]) there)

  zones_are : map (zone_of part L) columns ≡ chunk_zones t is i
  zones_are =
      map_twice (zone_of part L) (values_at is) chunks
      ∙ (λ j. map (λ chunk. zone_of (part_is j) L (values_at is chunk)) (sym own j))

  sums_are : map sum_of columns ≡ map (λ chunk. sum_of (values_at is chunk)) (chunks_of_group t i)
  sums_are = map_twice sum_of (values_at is) chunks ∙ ap (λ cs. map (λ chunk. sum_of (values_at is chunk)) cs) (sym own)

  rows_are : flat_map (λ column. column) columns ≡ values_at is (flat_map (λ chunk. chunk) (chunks_of_group t i))
  rows_are = values_together is chunks ∙ ap (λ cs. values_at is (flat_map (λ chunk. chunk) cs)) (sym own)

  described_by_joins : (b : ArrayStats) → IsJoined t.kind (model.bound_length t) is b chunks → Describes t is i (zone_in b)
  described_by_joins b joined =
      let z = zone_in b in
      let made = joined.made part (record { there = there; leaf = leaf }) in
      let column_typed = all_of_type t.kind is part chunks there typed in
      let bounds = bounds_of_column part L columns made.0 leaf column_typed made.1 in
      let total = joins_total part L columns made.0 made.1 in
      let constant = joins_constancy part L columns made.0 leaf column_typed made.1 in record {
        low = sym (ap (λ y. y.low) made.2) ∙ bounds.low ∙ ap group_low zones_are;
        high = sym (ap (λ y. y.high) made.2) ∙ bounds.high ∙ ap group_high zones_are;
        nulls = sym (ap (λ y. y.nulls) made.2) ∙ bounds.nulls ∙ ap group_nulls zones_are;
        total = subst (λ k. IsGroupTotal k (map (λ chunk. sum_of (values_at is chunk)) (chunks_of_group t i)) z.total) part_is
            (subst (λ sums. IsGroupTotal part sums z.total) sums_are (subst (λ y. IsGroupTotal part (map sum_of columns) y.total) made.2 total));
        constant = subst (λ zones. IsGroupConstancy (values_at is (flat_map (λ chunk. chunk) (chunks_of_group t i))) zones z.constant) zones_are
            (subst (λ cs. IsGroupConstancy cs (map (zone_of part L) columns) z.constant) rows_are
            (subst (λ y. IsGroupConstancy (flat_map (λ column. column) columns) (map (zone_of part L) columns) y.constant) made.2 constant));
      }

-- the statistics of a leaf column of a group describe it
pub group_describes : (t : model.Table) (is : Positions) (part : LogicalType) (b : ArrayStats) (i : ℕ) (chunks : List (List Content)) → type_at t.kind is ≡ Some part → is_leaf part ≡ true →
    AllByRecursion (λ chunk. AllByRecursion (IsContent t.kind) chunk) chunks → chunks_of_group t i ≡ chunks →
    ∥ IsJoined t.kind (model.bound_length t) is b chunks ∥₁ → Describes t is i (zone_in b)
group_describes t is part b i chunks there leaf typed own joined =
    described_once t is i (zone_in b) (∥∥₁_map joined (λ h. described_by_joins t is part i chunks there leaf typed own b h))

-- ---- the chunks of a group

-- the rows of the chunks of the group at the index
abbrev rows_of_group : List Group → List (List Content) → ℕ → List (List Content)
rows_of_group groups rows j = elim (slice_get (grouped (map (λ x. x.chunks) groups) rows) j) [ None ↦ [] | Some own ↦ own ]

module _ (k : LogicalType) (L : Positions → ℕ) (chunks : List Chunk) where
  chunks_at : (first : ℕ) (groups : List Group) → AreGroups k L first groups (drop first chunks) → (j : ℕ) (g : Group) → j < length groups →
      rows_of_group groups (map chunk_rows (drop first chunks)) j ≡ map chunk_rows (chunks_of chunks (get_or groups j g))
  chunks_at first [] h j g inside = absurd (omega (arith, inside))
  chunks_at first (x ∷ groups) h zero g inside =
      take_said x.chunks (drop first chunks) ∙ ap (λ n. map chunk_rows (take x.chunks (drop n chunks))) (sym h.0)
  chunks_at first (x ∷ groups) h (suc j) g inside =
      ap (λ rows. rows_of_group groups rows j) (drop_said x.chunks (drop first chunks) ∙ ap (map chunk_rows) (drop_on first x.chunks chunks))
      ∙ chunks_at (first + x.chunks) groups (subst (λ cs. AreGroups k L (first + x.chunks) groups cs) (drop_on first x.chunks chunks) h.2) j g (omega (arith, inside))

-- of a table, those of the group at the index
pub group_chunks : (t : Table) (i : ℕ) (g : Group) → i < length t.groups → chunks_of_group (table_of t) i ≡ map chunk_rows (chunks_of t.chunks.items (get_or t.groups i g))
group_chunks t i g inside = chunks_at (type_of t.dtype) (length_in t.bound_lengths) t.chunks.items 0 t.groups t.grouped i g inside

-- ---- the group at an index of a table

module _ (t : Table) (i : ℕ) (g : Group) (inside : i < length t.groups) (at_i : g ≡ get_or t.groups i g) where
  abbrev k : LogicalType
  k = type_of t.dtype

  abbrev own : List Chunk
  own = chunks_of t.chunks.items g

  pub chunks_there : chunks_of_group (table_of t) i ≡ map chunk_rows own
  chunks_there = group_chunks t i g inside ∙ ap (λ x. map chunk_rows (chunks_of t.chunks.items x)) (sym at_i)

  pub group_there : IsGroup k (length_in t.bound_lengths) g own
  group_there = group_at k (length_in t.bound_lengths) t.chunks.items 0 t.groups t.grouped i g inside at_i

  pub chunks_formed : list_all (is_formed (length_in t.bound_lengths) k) own ≡ true
  chunks_formed = formed_in (is_formed (length_in t.bound_lengths) k) g t.chunks.items t.formed

  pub chunks_typed : AllByRecursion (λ chunk. AllByRecursion (IsContent k) chunk) (map chunk_rows own)
  chunks_typed = all_said (length_in t.bound_lengths) k own chunks_formed

  -- the statistics of a leaf column in its rows describe the column
  pub column_described : (is : Positions) (part : LogicalType) (b : ArrayStats) → type_at k is ≡ Some part → is_leaf part ≡ true →
      ∥ IsJoined k (length_in t.bound_lengths) is b (map chunk_rows own) ∥₁ → Describes (table_of t) is i (zone_in b)
  column_described is part b there leaf joined =
      group_describes (table_of t) is part b i (map chunk_rows own) there leaf chunks_typed chunks_there joined

-- ---- the statistics of one leaf

module _ (k : LogicalType) (L : Positions → ℕ) (bounds : List ArrayStats) (chunks : List (List Content)) (is : Positions) (part : LogicalType) (there : type_at k is ≡ Some part) (leaf : is_leaf part ≡ true)
    (joined : ∥ AreJoined k L (leaf_positions k) bounds chunks ∥₁) where
  found : AreJoined k L (leaf_positions k) bounds chunks → FoundJoined k L (leaf_positions k) bounds chunks is
  found h = found_joined k L (leaf_positions k) bounds chunks is h (leaf_there k is part there leaf)

  pub leaf_has_bounds : is_some (bounds_at (leaf_positions k) bounds is) ≡ true
  leaf_has_bounds = ∥∥₁_elim joined (Coded-set coded_bool _ _) (λ h. ap is_some (found h).there)

  same_bounds : (a b : ArrayStats) → Some a ≡ Some b → a ≡ b
  same_bounds a b e = cc (e)

  pub leaf_joined : (b : ArrayStats) → bounds_at (leaf_positions k) bounds is ≡ Some b → ∥ IsJoined k L is b chunks ∥₁
  leaf_joined b e =
      ∥∥₁_map joined (λ h. subst (λ x. IsJoined k L is x chunks) (same_bounds (found h).bounds_of b (sym (found h).there ∙ e)) (found h).joined)
