use Rattle.std.proofs.Common.{drop}
use Rattle.vortex_dtype_core.specs.View.{fields_of}
use Rattle.vortex_arrays_parts.specs.Typed.{AreOfTypes}
use Rattle.vortex_arrays_parts.proofs.struct_array_ext.are_of_types.Given as goal

abbrev pub invariant-loop-i : goal.invariant-loop-i
invariant-loop-i l = record {
  in_all : AreOfTypes (fields_of (drop l.i l.stated)) (drop l.i l.fields) → AreOfTypes (fields_of l.stated) l.fields;
  of_all : AreOfTypes (fields_of l.stated) l.fields → AreOfTypes (fields_of (drop l.i l.stated)) (drop l.i l.fields);
}
