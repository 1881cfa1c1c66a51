use Rattle.std.proofs.Common.{◌≡◌, map, take}
use Rattle.vortex_table_schema.specs.Lengths.{length_in}
use Rattle.vortex_table_schema.proofs.lengths.BoundLengths.of_leaves.Given as goal

abbrev pub invariant-loop-leaf : goal.invariant-loop-leaf
invariant-loop-leaf l = l.lengths.items ≡ map (length_in l.self) (take l.leaf-index l.leaves)
