use Rattle.vortex_stats_array.specs.Sums.{known_sum}
use Rattle.vortex_stats_array.specs.Zones.{known_constancy}
use Rattle.vortex_table_chunk.proofs.zones.carried.in_kind_of.Goals as goal

pub returns-clause-zone : goal.returns-clause-zone
returns-clause-zone c = λ i. (let stats = c.args.stats.now in record {
  low = c.in_ok-min.ensures.bound i;
  high = c.in_ok-max.ensures.bound i;
  nulls = stats.null_count;
  rows = stats.row_count;
  total = known_sum stats.sum;
  constant = known_constancy stats.is_constant;
})
