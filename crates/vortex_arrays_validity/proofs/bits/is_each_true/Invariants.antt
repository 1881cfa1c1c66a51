use Rattle.vortex_arrays_model.specs.Layout.{by_array}
use Rattle.vortex_arrays_validity.specs.Validities.{NoneNull}
use Rattle.vortex_arrays_validity.proofs.bits.is_each_true.Given as goal

abbrev pub invariant-loop-i : goal.invariant-loop-i
invariant-loop-i l = NoneNull (by_array l.rows) l.i
