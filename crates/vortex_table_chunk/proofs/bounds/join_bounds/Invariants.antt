use Rattle.std.proofs.Common.{take}
use Rattle.vortex_table_chunk.specs.zones.Join.{AreJoinsOf}
use Rattle.vortex_table_chunk.proofs.bounds.join_bounds.Given as goal

abbrev pub invariant-loop-index : goal.invariant-loop-index
invariant-loop-index l = AreJoinsOf (take l.index l.left) (take l.index l.right) l.all.items
