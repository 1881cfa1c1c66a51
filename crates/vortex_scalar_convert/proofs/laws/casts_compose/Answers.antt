use Rattle.std.proofs.Common.{subst, ◌∙◌}
use Rattle.vortex_model.specs.Content.{content_of}
use Rattle.vortex_model.specs.Convert.{Converts}
use Rattle.vortex_scalar_convert.proofs.laws.casts_compose.Goals as goal

pub returns : goal.returns
returns c = λ s t w r u v h g.
    (c.conversions_compose.ensures s t w (content_of r) h.0 (subst (λ x. Converts t w x) h.2 g.0), g.1, g.2 ∙ h.2)
