use Rattle.vortex_arrays_model.proofs.SomeLemmas.{picks_some_dictionary}
use Rattle.vortex_arrays_model.proofs.laws.dictionaries_take.Goals as goal

pub returns : goal.returns
returns c = λ d v f s. picks_some_dictionary d v f s
