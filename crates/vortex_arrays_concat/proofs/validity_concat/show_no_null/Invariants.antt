use Rattle.vortex_arrays_validity.specs.Validities.{shows_no_null}
use Rattle.vortex_arrays_concat.proofs.ValidityLemmas.{AllShow}
use Rattle.vortex_arrays_concat.proofs.validity_concat.show_no_null.Given as goal

abbrev pub invariant-loop-part : goal.invariant-loop-part
invariant-loop-part l = AllShow shows_no_null l.parts l.part-index
