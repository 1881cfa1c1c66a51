use Rattle.std.proofs.Common.{drop}
use Rattle.vortex_arrays_core.specs.Flags.{KeepsDictionaryFlag}
use Rattle.vortex_arrays_struct.proofs.Steps.{IsOnTheWay}
use Rattle.vortex_arrays_struct.proofs.column.column_at.Given as goal

abbrev pub invariant-loop-name : goal.invariant-loop-name
invariant-loop-name l = record {
  way : IsOnTheWay l.array l.path l.column (drop l.name-index l.path);
  flag : KeepsDictionaryFlag l.array l.column;
}
