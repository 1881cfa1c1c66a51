use Rattle.std.proofs.Common.{◌≡◌, subst, sym, ap, ◌∙◌, refl, true, false}
use Rattle.vortex_model.specs.LogicalType.{nullability_of}
use Rattle.vortex_model.specs.Kept.{is_leaf}
use Rattle.vortex_model_table.specs.ZoneMap.{zone_of}
use Rattle.vortex_arrays_model.specs.Layout.{array_type_of, rows_of}
use Rattle.vortex_arrays_model.proofs.RowsLemmas.{row_count}
use Rattle.vortex_stats_array.specs.Sums.{IsSumIn}
use Rattle.vortex_stats_array.specs.Zones.{zone_in, HasBoundsIn, AreOfType}
use Rattle.vortex_stats_array.proofs.Compared.{leaf_rows_compare}
use Rattle.vortex_stats_array.proofs.OwnTypes.{own_nullability}
use Rattle.vortex_stats_array.proofs.Told.{told_of, of_found}
use Rattle.vortex_stats_array.proofs.of_array.array_stats.Goals as goal

pub returns-clause-zone : goal.returns-clause-zone
returns-clause-zone c =
    let a = c.args.array.now in
    let leaf : is_leaf (array_type_of a) ≡ true = ap is_leaf (sym c.dtype.ensures) ∙ sym c.is_leaf.ensures ∙ c.if-not-is_leaf.false in
    told_of c.in_ok-stats.stats (is_leaf (array_type_of a) ≡ false) _ (λ stats. zone_in stats ≡ zone_of (array_type_of a) c.args.max_length (rows_of a)) c.in_ok-stats.ensures (λ stats told.
    told.zone (rows_of a) refl (leaf_rows_compare a c.len.ensures.sound leaf) (row_count a ∙ sym c.len.ensures.count)
    ∙ ap (λ k. zone_of k c.args.max_length (rows_of a)) c.dtype-2.ensures)

pub returns-clause-types : goal.returns-clause-types
returns-clause-types c =
    let a = c.args.array.now in let k = array_type_of a in
    let leaf : is_leaf k ≡ true = ap is_leaf (sym c.dtype.ensures) ∙ sym c.is_leaf.ensures ∙ c.if-not-is_leaf.false in
    of_found c.in_ok-stats.stats (is_leaf k ≡ false) _ (AreOfType k) c.in_ok-stats.ensures (λ stats told. record {
      bounds = subst (λ l. HasBoundsIn l stats) (own_nullability k leaf) (told.bounds (nullability_of k));
      sum = subst (λ l. IsSumIn l stats.sum) c.dtype-2.ensures told.sum;
    })
