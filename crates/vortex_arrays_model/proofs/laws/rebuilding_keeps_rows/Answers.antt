use Rattle.vortex_arrays_model.proofs.RebuiltLemmas.{rebuilt_rows, rebuilt_kind}
use Rattle.vortex_arrays_model.proofs.laws.rebuilding_keeps_rows.Goals as goal

pub returns : goal.returns
returns c = λ e o s f v r h. (rebuilt_rows e o s f v r h, rebuilt_kind e o s f v r h)
