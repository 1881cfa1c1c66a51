use Rattle.vortex_arrays_model.specs.Layout.{size_of}
use Rattle.vortex_arrays_struct.proofs.part.+field_of.Given as goal

abbrev pub decreases-field_of : goal.decreases-field_of
decreases-field_of l = size_of l.array.now
