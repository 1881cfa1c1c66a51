use Rattle.std.proofs.Common.{false, map}
use Rattle.std.specs.Prelude.{slice_index_or}
use Rattle.vortex_arrays_dictionary.specs.Narrowed.{AreExtremes}
use Rattle.vortex_arrays_dictionary.proofs.extremes.chosen_extremes.Given as goal

abbrev pub invariant-loop-i : goal.invariant-loop-i
invariant-loop-i g l = AreExtremes (λ i. slice_index_or l.bits i false) (map g.T.Sealed.integer l.items) l.i l.least l.greatest
