use Rattle.std.proofs.Common.{◌≡◌, length, map}
use Rattle.vortex_arrays_model.specs.Layout.{numbers, required}
use Rattle.vortex_arrays_model.specs.Referenced.{MarksReferenced}
use Rattle.vortex_arrays_nested.proofs.referenced.items_marks.Given as goal

abbrev pub invariant-loop-i : goal.invariant-loop-i
invariant-loop-i g l = record {
  count : length l.marks.items ≡ l.count;
  marks : MarksReferenced (numbers g.T.Sealed.kind (map g.T.Sealed.integer l.codes) required) l.i l.mark l.marks.items;
}
