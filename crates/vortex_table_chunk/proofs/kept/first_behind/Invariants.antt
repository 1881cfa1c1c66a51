use Rattle.std.proofs.Common.{◌≤◌, ◌-◌, length}
use Rattle.vortex_table_chunk.proofs.kept.first_behind.Given as goal

abbrev pub invariant-loop-from : goal.invariant-loop-from
invariant-loop-from l = l.to ≤ length l.leaves

abbrev pub decreases-loop-from : goal.decreases-loop-from
decreases-loop-from l = l.to - l.from
