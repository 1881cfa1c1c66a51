use Rattle.std.proofs.Common.{◌≡◌, take}
use Rattle.vortex_arrays_validity.specs.Validities.{rows_of_all}
use Rattle.vortex_arrays_concat.specs.EndToEnd.{parts_of}
use Rattle.vortex_arrays_concat.proofs.validity_concat.rows_of_all.Given as goal

abbrev pub invariant-loop-part : goal.invariant-loop-part
invariant-loop-part l = l.all.items ≡ rows_of_all (parts_of (take l.part-index l.parts))
