use Rattle.std.proofs.Common.{length, sym, subst}
use Rattle.vortex_model.specs.LogicalType.{utf8, binary, with_nullability}
use Rattle.vortex_arrays_model.specs.Layout.{strings, content_at, type_of_strings, nullability_by}
use Rattle.vortex_arrays_core.specs.LayoutOf.{valid_of, strings_of}
use Rattle.vortex_stats_array.specs.Counted.{StandIn}
use Rattle.vortex_stats_array.specs.Zones.{HasBoundsIn}
use Rattle.vortex_stats_array.proofs.of_array.stats_of_views.Goals as goal

pub returns-in_ok-stats-in-Utf8 : goal.returns-in_ok-stats-in-Utf8
returns-in_ok-stats-in-Utf8 c = record {
  zone = λ rows stand compare many. c.in_ok-stats-in-Utf8.ensures.zone rows (c.seen_texts-texts.ensures rows
      (subst (λ k. StandIn c.args.counts (content_at (strings (strings_of k) c.args.views.now c.args.buffers.now (valid_of c.args.validity.now))) (length c.args.views.now) rows) c.in-Utf8.is stand))
      compare many;
  bounds = λ n. subst (λ k. HasBoundsIn (with_nullability n (type_of_strings (strings_of k) (nullability_by (valid_of c.args.validity.now)))) c.in_ok-stats-in-Utf8.stats) (sym c.in-Utf8.is) (c.in_ok-stats-in-Utf8.ensures.bounds (utf8 n) tt);
  sum = c.in_ok-stats-in-Utf8.ensures.sum;
}

pub returns-in_ok-stats-in-Binary : goal.returns-in_ok-stats-in-Binary
returns-in_ok-stats-in-Binary c = record {
  zone = λ rows stand compare many. c.in_ok-stats-in-Binary.ensures.zone rows (c.seen_byte_strings-bytes.ensures rows
      (subst (λ k. StandIn c.args.counts (content_at (strings (strings_of k) c.args.views.now c.args.buffers.now (valid_of c.args.validity.now))) (length c.args.views.now) rows) c.in-Binary.is stand))
      compare many;
  bounds = λ n. subst (λ k. HasBoundsIn (with_nullability n (type_of_strings (strings_of k) (nullability_by (valid_of c.args.validity.now)))) c.in_ok-stats-in-Binary.stats) (sym c.in-Binary.is) (c.in_ok-stats-in-Binary.ensures.bounds (binary n) tt);
  sum = c.in_ok-stats-in-Binary.ensures.sum;
}
