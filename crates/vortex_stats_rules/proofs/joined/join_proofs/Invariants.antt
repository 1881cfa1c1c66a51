use Rattle.std.proofs.Common.{◌≡◌, length}
use Rattle.vortex_stats_rules.specs.Table.{all_unboxed, joined_proofs}
use Rattle.vortex_stats_rules.proofs.joined.join_proofs.Given as goal

abbrev pub invariant-loop-alloc : goal.invariant-loop-alloc
invariant-loop-alloc l = joined_proofs (all_unboxed l.left.items) ≡ joined_proofs (all_unboxed l.fn.proofs.items)

abbrev pub decreases-loop-alloc : goal.decreases-loop-alloc
decreases-loop-alloc l = length l.left.items
