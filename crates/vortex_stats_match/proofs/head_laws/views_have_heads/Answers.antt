use Rattle.vortex_stats_match.proofs.HeadLemmas.{has_head}
use Rattle.vortex_stats_match.proofs.head_laws.views_have_heads.Goals as goal

pub returns : goal.returns
returns c = has_head
