use Rattle.vortex_model.specs.LogicalType.{with_nullability}
use Rattle.vortex_arrays_model.specs.Layout.{array_type_of}
use Rattle.vortex_stats_array.proofs.OwnTypes.{integers_stay}
use Rattle.vortex_stats_array.proofs.of_array.stats_of_any_kind.Goals as goal

pub returns : goal.returns
returns g c =
    let k = array_type_of c.args.array.now in
    record {
      zone = λ rows stand compare many. c.in_ok-stats.ensures.zone rows (c.referenced_numbers.ensures rows stand) compare many;
      bounds = λ n. c.in_ok-stats.ensures.bounds (with_nullability n k) (integers_stay g.T.Sealed.kind n k c.requires.kind);
      sum = c.in_ok-stats.ensures.sum;
    }
