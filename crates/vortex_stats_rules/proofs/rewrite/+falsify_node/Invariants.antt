-- A BETWEEN weighs more than its AND.
use Rattle.vortex_stats_rules.proofs.Nodes.{weight}
use Rattle.vortex_stats_rules.proofs.rewrite.+falsify_node.Given as goal

abbrev pub decreases-falsify_node : goal.decreases-falsify_node
decreases-falsify_node g l = weight l.e.now
