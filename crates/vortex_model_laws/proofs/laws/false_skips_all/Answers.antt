use Rattle.vortex_model_laws.proofs.AllSkipped.{false_skips}
use Rattle.vortex_model_laws.proofs.laws.false_skips_all.Goals as goal

pub returns : goal.returns
returns c = false_skips
