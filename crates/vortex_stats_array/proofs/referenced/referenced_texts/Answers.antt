use Rattle.std.proofs.Common.{rules}
use Rattle.vortex_stats_array.proofs.referenced.referenced_texts.Goals as goal

pub returns : goal.returns
returns c rows stand = c.seen_in.ensures (search rules) rows stand
