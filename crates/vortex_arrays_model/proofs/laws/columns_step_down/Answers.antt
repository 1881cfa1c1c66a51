use Rattle.vortex_arrays_model.proofs.ColumnLemmas.{column_step}
use Rattle.vortex_arrays_model.proofs.laws.columns_step_down.Goals as goal

pub returns : goal.returns
returns c = λ cs n v x xs k b t r s e f h q. column_step cs n v x xs k b t r s e f h q
