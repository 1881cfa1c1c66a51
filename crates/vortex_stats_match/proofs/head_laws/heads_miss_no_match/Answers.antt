use Rattle.vortex_stats_match.proofs.FrontLemmas.{match_is}
use Rattle.vortex_stats_match.proofs.head_laws.heads_miss_no_match.Goals as goal

pub returns : goal.returns
returns c = match_is
