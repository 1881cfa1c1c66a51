use Rattle.std.proofs.Common.{◌≡◌, drop}
use Rattle.vortex_table_chunk.specs.BoundStat.{bounds_at}
use Rattle.vortex_table_chunk.proofs.chunk.bounds_at.Given as goal

abbrev pub invariant-loop-index : goal.invariant-loop-index
invariant-loop-index l = bounds_at (drop l.index l.leaves) (drop l.index l.bounds) l.positions ≡ bounds_at l.leaves l.bounds l.positions
