use Rattle.vortex_arrays_model.proofs.PicksLemmas.{picks_part_of_part}
use Rattle.vortex_arrays_model.proofs.laws.slices_of_slices_are_slices.Goals as goal

pub returns : goal.returns
returns c = λ a b d n m start at fits p q. picks_part_of_part a b d n m start at fits p q
