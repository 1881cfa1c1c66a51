use Rattle.vortex_model.specs.LogicalType.{boolean_type}
use Rattle.vortex_stats_array.proofs.of_array.stats_of_bools.Goals as goal

pub returns : goal.returns
returns c = record {
  zone = λ rows stand compare many. c.in_ok-stats.ensures.zone rows (c.seen_bools.ensures rows stand) compare many;
  bounds = λ n. c.in_ok-stats.ensures.bounds (boolean_type n) tt;
  sum = c.in_ok-stats.ensures.sum;
}
