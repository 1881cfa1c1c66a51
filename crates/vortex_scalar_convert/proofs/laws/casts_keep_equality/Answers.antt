use Rattle.vortex_model.specs.Content.{content_of}
use Rattle.vortex_scalar_convert.proofs.Compared.{equality_kept}
use Rattle.vortex_scalar_convert.proofs.laws.casts_keep_equality.Goals as goal

pub returns : goal.returns
returns c = λ k l t r s u v e h g. equality_kept k l t (content_of r) (content_of s) (content_of u) (content_of v) e h.2 g.2
