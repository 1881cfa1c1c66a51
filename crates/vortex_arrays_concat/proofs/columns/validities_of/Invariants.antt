use Rattle.vortex_arrays_concat.proofs.ColumnLemmas.{AreHeld}
use Rattle.vortex_arrays_concat.proofs.columns.validities_of.Given as goal

abbrev pub invariant-loop-array : goal.invariant-loop-array
invariant-loop-array l = AreHeld l.arrays l.array-index l.parts.items
