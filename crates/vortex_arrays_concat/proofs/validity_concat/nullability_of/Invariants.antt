use Rattle.vortex_dtype_ptype.specs.View.{nullability_of_flag}
use Rattle.vortex_arrays_concat.proofs.ValidityLemmas.{Either}
use Rattle.vortex_arrays_concat.proofs.validity_concat.nullability_of.Given as goal

abbrev pub invariant-loop-part : goal.invariant-loop-part
invariant-loop-part l = Either l.parts l.part-index (nullability_of_flag l.nullability)
