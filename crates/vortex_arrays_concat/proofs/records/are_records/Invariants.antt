use Rattle.std.proofs.Common.{take}
use Rattle.std.specs.List.{All}
use Rattle.vortex_arrays_struct.specs.Records.{AreRecords}
use Rattle.vortex_arrays_concat.proofs.records.are_records.Given as goal

abbrev pub invariant-loop-array : goal.invariant-loop-array
invariant-loop-array l = All AreRecords (take l.array-index l.arrays)
