use Rattle.vortex_stats_laws.proofs.Typed.{valid_counts}
use Rattle.vortex_stats_laws.proofs.laws.valid_sets_count_nulls.Goals as goal

pub returns : goal.returns
returns c = valid_counts
