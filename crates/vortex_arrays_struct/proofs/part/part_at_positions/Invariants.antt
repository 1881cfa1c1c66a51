use Rattle.std.proofs.Common.{drop}
use Rattle.vortex_arrays_struct.proofs.Parts.{IsOnTheWay}
use Rattle.vortex_arrays_struct.proofs.part.part_at_positions.Given as goal

abbrev pub invariant-loop-position : goal.invariant-loop-position
invariant-loop-position l = IsOnTheWay l.array l.positions l.part (drop l.position-index l.positions)
