use Rattle.vortex_model.specs.LogicalType.{stored}
use Rattle.vortex_scalar_convert.proofs.Told.{told}
use Rattle.vortex_scalar_convert.proofs.laws.contents_tell_values.Goals as goal

pub returns : goal.returns
returns c = λ k r s h g e. told (stored k) r s h g e
