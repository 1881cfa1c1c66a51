use Rattle.vortex_arrays_model.proofs.RebuiltLemmas.{laid_out_once}
use Rattle.vortex_arrays_model.proofs.laws.equal_rows_rebuild_equally.Goals as goal

pub returns : goal.returns
returns c = λ e o s v r a b d w t h k same. laid_out_once e o s v r a b d w t h k same
