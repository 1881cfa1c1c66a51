use Rattle.std.proofs.Common.{◌∙◌}
use Rattle.vortex_model.specs.LogicalType.{stored}
use Rattle.vortex_scalar_convert.proofs.Told.{told}
use Rattle.vortex_scalar_convert.proofs.laws.casts_come_back.Goals as goal

pub returns : goal.returns
returns c = λ s t r u v valid h g. told (stored s) v r g.1 valid (g.2 ∙ h.2)
