use Rattle.std.proofs.Common.{ℤ, map, refl, subst}
use Rattle.std.proofs.lemmas.List.{length-map}
use Rattle.vortex_model.specs.LogicalType.{integer_type}
use Rattle.vortex_arrays_model.specs.Layout.{numbers, content_at}
use Rattle.vortex_arrays_core.specs.LayoutOf.{valid_of}
use Rattle.vortex_stats_array.specs.Counted.{CountsEach, StandIn}
use Rattle.vortex_stats_array.proofs.of_array.of_kind.Goals as goal

pub seen_numbers-requires-clause-counted : goal.seen_numbers-requires-clause-counted
seen_numbers-requires-clause-counted g c =
    subst (CountsEach c.args.counts) (length-map {B = ℤ} c.args.items.now (λ x. g.T.Sealed.integer x)) c.requires.counted

pub returns : goal.returns
returns g c = record {
  zone = λ rows stand compare many. c.in_ok-stats.ensures.zone rows (c.seen_numbers.ensures rows
      (subst (λ n. StandIn c.args.counts (content_at (numbers g.T.Sealed.kind (map (λ x. g.T.Sealed.integer x) c.args.items.now) (valid_of c.args.validity.now))) n rows)
      (length-map {B = ℤ} c.args.items.now (λ x. g.T.Sealed.integer x)) stand)) compare many;
  bounds = λ n. c.in_ok-stats.ensures.bounds (integer_type g.T.Sealed.kind n) refl;
  sum = c.in_ok-stats.ensures.sum;
}
