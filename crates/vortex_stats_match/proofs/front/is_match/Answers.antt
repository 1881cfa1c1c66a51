use Rattle.std.proofs.Common.{arith}
use Rattle.std.proofs.lemmas.Grind.{common_steps}
use Rattle.vortex_stats_match.proofs.front.is_match.Goals as goal

pub returns-then-admits : goal.returns-then-admits
returns-then-admits c = grind (arith, common_steps)

pub returns-else-admits : goal.returns-else-admits
returns-else-admits c = grind (arith, common_steps)
