use Rattle.std.proofs.Common.{◌≡◌, ◌++◌, length}
use Rattle.std.specs.Vec.Iter.{into_iter_items}
use Rattle.vortex_stats_expr.specs.Tree.{combined}
use Rattle.vortex_stats_expr.specs.Collect.{paired}
use Rattle.vortex_stats_expr.proofs.collect.pair_up.Given as goal

abbrev pub invariant-loop-first : goal.invariant-loop-first
invariant-loop-first l =
    l.pairs.items ++ paired (combined l.operator) (into_iter_items l.rest)
    ≡ paired (combined l.operator) l.fn.predicates.items

abbrev pub decreases-loop-first : goal.decreases-loop-first
decreases-loop-first l = length (into_iter_items l.rest)
