use Rattle.vortex_stats_match.proofs.ByteLemmas.{bytes_like}
use Rattle.vortex_stats_match.proofs.laws.bytes_match_as_characters.Goals as goal

pub returns : goal.returns
returns c = bytes_like
