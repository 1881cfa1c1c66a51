use Rattle.std.proofs.Common.{true, map}
use Rattle.vortex_arrays_dictionary.specs.Narrowed.{AreExtremes}
use Rattle.vortex_arrays_dictionary.proofs.extremes.all_extremes.Given as goal

abbrev pub invariant-loop-i : goal.invariant-loop-i
invariant-loop-i g l = AreExtremes (λ _. true) (map g.T.Sealed.integer l.items) l.i l.least l.greatest
