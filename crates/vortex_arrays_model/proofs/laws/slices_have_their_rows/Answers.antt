use Rattle.vortex_arrays_model.proofs.RowsLemmas.{rows_sliced}
use Rattle.vortex_arrays_model.proofs.laws.slices_have_their_rows.Goals as goal

pub returns : goal.returns
returns c = λ a r start end order within p. rows_sliced a r start end order within p
