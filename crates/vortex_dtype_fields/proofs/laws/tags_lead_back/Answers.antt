use Rattle.vortex_dtype_fields.proofs.Choices.{lead_back}
use Rattle.vortex_dtype_fields.proofs.laws.tags_lead_back.Goals as goal

pub returns : goal.returns
returns c = lead_back
