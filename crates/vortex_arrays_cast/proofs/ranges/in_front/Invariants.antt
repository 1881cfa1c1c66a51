use Rattle.vortex_arrays_cast.proofs.RangeLemmas.{StandIn}
use Rattle.vortex_arrays_cast.proofs.ranges.in_front.Given as goal

abbrev pub invariant-loop-count : goal.invariant-loop-count
invariant-loop-count l = StandIn l.depth l.index l.ranges l.count
