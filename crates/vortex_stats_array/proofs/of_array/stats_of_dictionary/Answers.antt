use Rattle.std.proofs.Common.{◌≡◌, sym, subst, false, None}
use Rattle.std.specs.List.Sorted.{IsPermutation}
use Rattle.vortex_model.specs.LogicalType.{nullability_of, either_nullable}
use Rattle.vortex_model.specs.Kept.{is_leaf}
use Rattle.vortex_arrays_model.specs.Layout.{dictionary, array_type_of, content_at}
use Rattle.vortex_arrays_model.specs.Parts.{AreWithin}
use Rattle.vortex_stats_array.specs.Asked.{AreStatsOf}
use Rattle.vortex_stats_array.specs.Counted.{counted_rows}
use Rattle.vortex_stats_array.specs.Zones.{HasBoundsIn}
use Rattle.vortex_stats_array.proofs.OwnTypes.{last_nullability}
use Rattle.vortex_stats_array.proofs.Told.{told_of}
use Rattle.vortex_stats_array.proofs.of_array.stats_of_dictionary.Goals as goal

pub count_codes-requires-clause-within : goal.count_codes-requires-clause-within
count_codes-requires-clause-within c = subst (AreWithin c.args.codes.now) (sym c.len.ensures.count) c.requires.within

pub returns : goal.returns
returns c f =
    let codes = c.args.codes.now in let values = c.args.values.now in
    told_of c.in_ok-stats.stats (is_leaf (array_type_of values) ≡ false) _ (AreStatsOf c.args.asked.now None (dictionary codes values f)) c.in_ok-stats.ensures (λ stats told. record {
      zone = λ rows stand compare many. told.zone rows
          (subst (IsPermutation (counted_rows c.in_ok-counts.counts (content_at values)))
          stand
          (c.in_ok-counts.ensures.rows (content_at values))) compare many;
      bounds = λ n. subst (λ k. HasBoundsIn k stats)
          (sym (last_nullability n (either_nullable (nullability_of (array_type_of codes)) (nullability_of (array_type_of values))) (array_type_of values)))
          (told.bounds n);
      sum = told.sum;
    })
