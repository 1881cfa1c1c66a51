use Rattle.vortex_dtype_fields.proofs.Lawful.{fits_on}
use Rattle.vortex_dtype_fields.proofs.laws.fitting_is_transitive.Goals as goal

pub returns : goal.returns
returns c = fits_on
