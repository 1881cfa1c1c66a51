use Rattle.vortex_model_laws.proofs.Described.{descriptions_honest}
use Rattle.vortex_model_laws.proofs.laws.descriptions_are_honest.Goals as goal

pub returns : goal.returns
returns c = descriptions_honest
