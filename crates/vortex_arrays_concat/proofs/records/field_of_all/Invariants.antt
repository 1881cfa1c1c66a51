use Rattle.vortex_arrays_concat.proofs.RecordLemmas.{Gathered}
use Rattle.vortex_arrays_concat.proofs.records.field_of_all.Given as goal

abbrev pub invariant-loop-array : goal.invariant-loop-array
invariant-loop-array l = Gathered l.i l.arrays l.array-index l.parts.items
