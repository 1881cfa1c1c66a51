use Rattle.vortex_model_laws.proofs.Exact.{exactly_hopeless}
use Rattle.vortex_model_laws.proofs.laws.exactly_the_hopeless_are_skipped.Goals as goal

pub returns : goal.returns
returns c = exactly_hopeless
