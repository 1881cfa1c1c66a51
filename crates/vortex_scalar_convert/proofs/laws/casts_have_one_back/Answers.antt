use Rattle.std.proofs.Common.{subst, sym}
use Rattle.vortex_model.specs.Content.{content_of}
use Rattle.vortex_model.specs.Convert.{Converts}
use Rattle.vortex_scalar_convert.proofs.Returned.{back}
use Rattle.vortex_scalar_convert.proofs.laws.casts_have_one_back.Goals as goal

pub returns : goal.returns
returns c = λ s t r u valid h.
    subst (λ x. Converts t s x) (sym h.2) (back s t (content_of r) (c.valid_values_are_contents.ensures s r valid) h.0)
