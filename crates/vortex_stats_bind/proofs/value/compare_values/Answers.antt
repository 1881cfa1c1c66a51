-- The value is answered, so that a wrong one is refused at once.
use Rattle.std.proofs.Common.{rules}
use Rattle.vortex_stats_bind.proofs.value.compare_values.Goals as goal

pub returns-in-None : goal.returns-in-None
returns-in-None c = search rules
