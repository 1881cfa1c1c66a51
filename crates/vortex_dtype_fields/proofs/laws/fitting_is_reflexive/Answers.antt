use Rattle.vortex_dtype_fields.proofs.Lawful.{fits_itself}
use Rattle.vortex_dtype_fields.proofs.laws.fitting_is_reflexive.Goals as goal

pub returns : goal.returns
returns c = fits_itself
