use Rattle.std.proofs.Common.{refl}
use Rattle.vortex_model.specs.LogicalType.{stored}
use Rattle.vortex_model.specs.Content.{content_of}
use Rattle.vortex_model.proofs.Contents.{said}
use Rattle.vortex_scalar_convert.proofs.Converted.{from_nullable}
use Rattle.vortex_scalar_convert.proofs.laws.nullable_values_cast_back.Goals as goal

pub returns : goal.returns
returns c = λ k r h. (from_nullable k (content_of r) (said (stored k) r h), h, refl)
