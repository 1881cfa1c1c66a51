use Rattle.vortex_arrays_cast.specs.Ranges.{AreRangesOf}
use Rattle.vortex_table_layout.proofs.ranges.find_ranges.Given as goal

abbrev pub invariant-loop-index : goal.invariant-loop-index
invariant-loop-index l = AreRangesOf 0 l.chunk.array l.ranges.items
