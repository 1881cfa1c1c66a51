use Rattle.vortex_model_table.proofs.Equality.{content_so, content_passes}
use Rattle.vortex_model_table.proofs.laws.equality_of_contents_is_right.Goals as goal

pub returns : goal.returns
returns c = λ c d. (content_so c d, content_passes c d)
