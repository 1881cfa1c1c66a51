use Rattle.vortex_arrays_model.proofs.ValidRows.{rows_are_contents}
use Rattle.vortex_arrays_model.proofs.laws.rows_are_contents.Goals as goal

pub returns : goal.returns
returns c = λ a s. rows_are_contents a s
