-- What scans read of chunks that are converted, where the same leaf columns stay.
use Rattle.std.proofs.Common.{◌≡◌, refl, sym, ◌∙◌, ap, subst, ℕ, zero, suc, pos, List, [], ◌∷◌, length, map, drop, get_or, true, Option, Some, None, is_none, IsTrue}
use Rattle.std.specs.Prelude.{slice_index_or}
use Rattle.std.specs.List.{list_all}
use Rattle.std.specs.Cmp.{first_so, second_so}
use Rattle.vortex_model.specs.Content.{Content, integer}
use Rattle.vortex_model.specs.LogicalType.{LogicalType}
use Rattle.vortex_model.specs.Path.{Positions}
use Rattle.vortex_model_table.specs.Expression.{min, max, null_count}
use Rattle.vortex_model_table.specs.Statistics.{shown}
use Rattle.vortex_arrays_model.specs.Layout.{len_of}
use Rattle.vortex_table_schema.specs.Leaves.{leaf_positions}
use Rattle.vortex_table_chunk.specs.Bounds.{AreBoundsOf}
use Rattle.vortex_table_chunk.specs.Chunk.{chunk_rows}
use Rattle.vortex_table_chunk.specs.Formed.{is_formed}
use Rattle.vortex_table_chunk.specs.declared.chunk.Chunk.{Chunk}
use Rattle.vortex_stats_array.specs.declared.array_stats.ArrayStats.{ArrayStats}
use Rattle.vortex_table_chunk.proofs.Formed.{formed_honest}
use Rattle.vortex_table_chunk.proofs.TypedRows.{chunk_counted}
use Rattle.vortex_table_zonemaps.specs.Column.{IsColumnOf}
use Rattle.vortex_table_zonemaps.specs.Stats.{Zone, zone_of, leaf_stat, rows_stat}
use Rattle.vortex_table_zonemaps.specs.Zones.{AreZoneMaps}
use Rattle.vortex_table_zonemaps.specs.declared.zone_maps.ZoneMaps.{ZoneMaps}

-- what is held of the leaf at an index is the same in both
record SaysSame (j : ℕ) (y z : Zone) : Type 0 where
  low : leaf_stat j min y ≡ leaf_stat j min z
  high : leaf_stat j max y ≡ leaf_stat j max z
  nulls : leaf_stat j null_count y ≡ leaf_stat j null_count z

-- bounds of the same rows' leaves say the same
bounds_same : (s t : LogicalType) (lengths : List ℕ) (leaves : List Positions) (bs ds : List ArrayStats) (rows : List Content) (j n m : ℕ) →
    AreBoundsOf s lengths leaves bs rows → AreBoundsOf t lengths leaves ds rows → SaysSame j (bs, n) (ds, m)
bounds_same s t [] [] [] [] rows j n m p q = record { low = refl; high = refl; nulls = refl }
bounds_same s t (L ∷ lengths) (is ∷ leaves) (b ∷ bs) (d ∷ ds) rows zero n m p q = record {
  low = ap shown (ap (λ z. z.low) (p.0.zone) ∙ sym (ap (λ z. z.low) (q.0.zone)));
  high = ap shown (ap (λ z. z.high) (p.0.zone) ∙ sym (ap (λ z. z.high) (q.0.zone)));
  nulls = ap (λ k. integer (pos k)) (ap (λ z. z.nulls) (p.0.zone) ∙ sym (ap (λ z. z.nulls) (q.0.zone)));
}
bounds_same s t (L ∷ lengths) (is ∷ leaves) (b ∷ bs) (d ∷ ds) rows (suc j) n m p q =
    let behind = bounds_same s t lengths leaves bs ds rows j n m p.1 q.1 in
    record { low = behind.low; high = behind.high; nulls = behind.nulls }
bounds_same s t [] [] [] (d ∷ ds) rows j n m p q = absurd q
bounds_same s t (L ∷ lengths) (is ∷ leaves) (b ∷ bs) [] rows j n m p q = absurd q
bounds_same s t lengths leaves bs ds rows j n m p q = absurd p

pub none_made : (made : Option ZoneMaps) → ((maps : ZoneMaps) → made ≡ Some maps → ⊥) → is_none made ≡ true
none_made None h = refl
none_made (Some maps) h = absurd (h maps refl)

-- two types with the same leaves
module _ (s t : LogicalType) (L : Positions → ℕ) (same : leaf_positions s ≡ leaf_positions t) where
  chunks_same : (old new : Chunk) → IsTrue (is_formed L s old) → IsTrue (is_formed L t new) → chunk_rows new ≡ chunk_rows old → (j : ℕ) → SaysSame j (zone_of new) (zone_of old)
  chunks_same old new was is e j =
      bounds_same t s (map L (leaf_positions t)) (leaf_positions t) new.bounds.items old.bounds.items (chunk_rows old) j (len_of new.array) (len_of old.array)
      (subst (AreBoundsOf t (map L (leaf_positions t)) (leaf_positions t) new.bounds.items) e (formed_honest L t new is))
      (subst (λ leaves. AreBoundsOf s (map L leaves) leaves old.bounds.items (chunk_rows old)) same (formed_honest L s old was))

  -- what each pair of chunks says alike, all of them do
  all_same : (f : Zone → Content) → ((old new : Chunk) → IsTrue (is_formed L s old) → IsTrue (is_formed L t new) → chunk_rows new ≡ chunk_rows old → f (zone_of new) ≡ f (zone_of old)) →
      (old new : List Chunk) → list_all (is_formed L s) old ≡ true → list_all (is_formed L t) new ≡ true → map chunk_rows new ≡ map chunk_rows old → map f (map zone_of new) ≡ map f (map zone_of old)
  all_same f one [] [] was is e = refl
  all_same f one (c ∷ old) (d ∷ new) was is e =
      let first = one c d (first_so (is_formed L s c) (list_all (is_formed L s) old) was) (first_so (is_formed L t d) (list_all (is_formed L t) new) is) (ap (λ rows. get_or rows 0 []) e) in
      let rest = all_same f one old new (second_so (is_formed L s c) (list_all (is_formed L s) old) was) (second_so (is_formed L t d) (list_all (is_formed L t) new) is) (ap (drop 1) e) in
      λ i. first i ∷ rest i
  all_same f one [] (d ∷ new) was is e = absurd (cc e)
  all_same f one (c ∷ old) [] was is e = absurd (cc e)

  rows_same : (old new : Chunk) → IsTrue (is_formed L s old) → IsTrue (is_formed L t new) → chunk_rows new ≡ chunk_rows old → rows_stat (zone_of new) ≡ rows_stat (zone_of old)
  rows_same old new was is e = ap (λ n. integer (pos n)) (sym (chunk_counted new) ∙ ap length e ∙ chunk_counted old)

  -- what is held of the chunks of the first is held of those of the second
  pub zones_stay : (old new : List Chunk) (maps : ZoneMaps) → IsTrue (list_all (is_formed L s) old) → IsTrue (list_all (is_formed L t) new) → map chunk_rows new ≡ map chunk_rows old →
      AreZoneMaps maps (map zone_of old) → AreZoneMaps maps (map zone_of new)
  zones_stay old new maps was is e held = record {
    leaves = λ j leaf inside. let own = slice_index_or maps.leaves.items j leaf in let here = held.leaves j leaf inside in record {
      lows = subst (IsColumnOf own.lows) (sym (all_same (leaf_stat j min) (λ c d p q r. (chunks_same c d p q r j).low) old new was is e)) here.lows;
      highs = subst (IsColumnOf own.highs) (sym (all_same (leaf_stat j max) (λ c d p q r. (chunks_same c d p q r j).high) old new was is e)) here.highs;
      null_counts = subst (IsColumnOf own.null_counts) (sym (all_same (leaf_stat j null_count) (λ c d p q r. (chunks_same c d p q r j).nulls) old new was is e)) here.null_counts;
    };
    rows = subst (IsColumnOf maps.rows) (sym (all_same rows_stat rows_same old new was is e)) held.rows;
  }
