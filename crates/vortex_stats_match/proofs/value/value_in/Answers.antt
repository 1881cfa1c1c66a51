use Rattle.std.proofs.Common.{arith}
use Rattle.std.proofs.lemmas.Grind.{common_steps}
use Rattle.vortex_stats_match.proofs.value.value_in.Goals as goal

pub returns-else-range-bytes : goal.returns-else-range-bytes
returns-else-range-bytes c = grind (arith, common_steps)
