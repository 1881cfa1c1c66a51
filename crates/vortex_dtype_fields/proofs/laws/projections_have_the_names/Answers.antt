use Rattle.vortex_dtype_fields.proofs.Lawful.{projected_names}
use Rattle.vortex_dtype_fields.proofs.laws.projections_have_the_names.Goals as goal

pub returns : goal.returns
returns c = projected_names
