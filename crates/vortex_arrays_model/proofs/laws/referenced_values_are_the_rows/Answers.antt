use Rattle.vortex_arrays_model.proofs.ReferencedLemmas.{rows_are_marked, marked_are_rows}
use Rattle.vortex_arrays_model.proofs.laws.referenced_values_are_the_rows.Goals as goal

pub returns : goal.returns
returns c = λ d v f b mask x s h ne. ((λ o. rows_are_marked d v f b mask x s h ne o), (λ o. marked_are_rows d v f b mask x h o))
