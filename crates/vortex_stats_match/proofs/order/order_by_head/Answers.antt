use Rattle.std.proofs.Common.{arith}
use Rattle.std.proofs.lemmas.Grind.{common_steps}
use Rattle.vortex_stats_match.proofs.order.order_by_head.Goals as goal

pub returns-in-Equal : goal.returns-in-Equal
returns-in-Equal c = grind (arith, common_steps)
