use Rattle.vortex_arrays_model.proofs.RebuiltLemmas.{rebuilt_twice}
use Rattle.vortex_arrays_model.proofs.laws.rebuilding_twice_is_once.Goals as goal

pub returns : goal.returns
returns c = λ e o s f v a b d g w r h again. rebuilt_twice e o s f v a b d g w r h again
