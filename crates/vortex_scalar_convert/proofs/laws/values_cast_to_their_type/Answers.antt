use Rattle.std.proofs.Common.{refl}
use Rattle.vortex_model.specs.LogicalType.{stored}
use Rattle.vortex_model.specs.Content.{content_of}
use Rattle.vortex_model.proofs.Contents.{said}
use Rattle.vortex_scalar_convert.proofs.Converted.{to_itself}
use Rattle.vortex_scalar_convert.proofs.laws.values_cast_to_their_type.Goals as goal

pub returns : goal.returns
returns c = λ k r h. (to_itself k (content_of r) (said (stored k) r h), h, refl)
