use Rattle.vortex_stats_match.proofs.HeadLemmas.{cmp_is}
use Rattle.vortex_stats_match.proofs.head_laws.heads_tell_the_order.Goals as goal

pub returns : goal.returns
returns c = cmp_is
