use Rattle.std.proofs.Common.{◌≡◌, length}
use Rattle.vortex_arrays_model.specs.Referenced.{MarksReferenced}
use Rattle.vortex_arrays_nested.proofs.referenced.referenced_marks.Given as goal

abbrev pub invariant-loop-i : goal.invariant-loop-i
invariant-loop-i l = record {
  count : length l.marks.items ≡ l.count;
  marks : MarksReferenced l.codes l.i l.mark l.marks.items;
}
