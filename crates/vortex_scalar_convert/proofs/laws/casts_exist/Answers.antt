use Rattle.vortex_model.specs.Content.{content_of}
use Rattle.vortex_scalar_convert.proofs.laws.casts_exist.Goals as goal

pub returns : goal.returns
returns c = λ s t r valid h.
    let content = c.valid_values_are_contents.ensures s r valid in
    let there = c.conversions_are_valid.ensures s t (content_of r) content h in
    let found = c.contents_have_raw_values.ensures t (content_of r) there in
    (found.0, (h, found.1, found.2))
