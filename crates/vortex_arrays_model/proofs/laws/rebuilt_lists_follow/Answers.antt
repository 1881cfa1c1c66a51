use Rattle.std.specs.Prelude.{false}
use Rattle.vortex_arrays_model.proofs.RebuiltLemmas.{new_end_to_end}
use Rattle.vortex_arrays_model.proofs.laws.rebuilt_lists_follow.Goals as goal

pub returns : goal.returns
returns c = λ e o s v r h. new_end_to_end e o s false v h.elements h.offsets h.sizes h.canonical
