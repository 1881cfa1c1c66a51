use Rattle.std.proofs.Common.{map}
use Rattle.vortex_arrays_view.specs.Lengths.{lengths_between}
use Rattle.vortex_arrays_view.proofs.Counted.{Counted}
use Rattle.vortex_arrays_view.proofs.lengths.counts_between.Given as goal

abbrev pub invariant-loop-i : goal.invariant-loop-i
invariant-loop-i g l = Counted (lengths_between (map g.P.Sealed.integer l.offsets)) l.i l.counts.items l.left l.total
