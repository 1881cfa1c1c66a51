use Rattle.std.proofs.Common.{map}
use Rattle.vortex_arrays_view.proofs.Counted.{Counted}
use Rattle.vortex_arrays_view.proofs.lengths.counts.Given as goal

abbrev pub invariant-loop-i : goal.invariant-loop-i
invariant-loop-i g l = Counted (map g.P.Sealed.integer l.lengths) l.i l.counts.items l.left l.total
