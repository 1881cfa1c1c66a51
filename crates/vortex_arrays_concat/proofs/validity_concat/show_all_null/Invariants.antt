use Rattle.vortex_arrays_validity.specs.Validities.{shows_all_null}
use Rattle.vortex_arrays_concat.proofs.ValidityLemmas.{AllShow}
use Rattle.vortex_arrays_concat.proofs.validity_concat.show_all_null.Given as goal

abbrev pub invariant-loop-part : goal.invariant-loop-part
invariant-loop-part l = AllShow shows_all_null l.parts l.part-index
