use Rattle.std.proofs.Common.{◌≡◌, ◌++◌, length}
use Rattle.std.specs.Vec.Iter.{into_iter_items}
use Rattle.vortex_stats_rules.specs.Table.{all_unboxed, paired}
use Rattle.vortex_stats_rules.proofs.joined.pair_up.Given as goal

abbrev pub invariant-loop-first : goal.invariant-loop-first
invariant-loop-first l =
    all_unboxed l.joined.items ++ paired (all_unboxed (into_iter_items l.rest))
    ≡ paired (all_unboxed l.fn.proofs.items)

abbrev pub decreases-loop-first : goal.decreases-loop-first
decreases-loop-first l = length (into_iter_items l.rest)
