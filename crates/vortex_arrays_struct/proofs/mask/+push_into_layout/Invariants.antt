use Rattle.vortex_arrays_model.specs.Layout.{size_of}
use Rattle.vortex_arrays_struct.proofs.mask.+push_into_layout.Given as goal

abbrev pub decreases-push_into_layout : goal.decreases-push_into_layout
decreases-push_into_layout l = size_of l.array.now
