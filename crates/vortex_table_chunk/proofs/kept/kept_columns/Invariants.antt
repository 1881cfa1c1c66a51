use Rattle.vortex_arrays_model.specs.Layout.{rows_of}
use Rattle.vortex_table_chunk.proofs.KeptLemmas.{FirstKept}
use Rattle.vortex_table_chunk.proofs.kept.kept_columns.Given as goal

abbrev pub invariant-loop-index : goal.invariant-loop-index
invariant-loop-index l = FirstKept l.leaves l.index l.columns.items (rows_of l.array)
