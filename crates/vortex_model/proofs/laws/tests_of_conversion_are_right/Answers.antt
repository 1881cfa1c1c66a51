use Rattle.vortex_model.proofs.Passes.{converts_passes}
use Rattle.vortex_model.proofs.Tests.{converts_so}
use Rattle.vortex_model.proofs.laws.tests_of_conversion_are_right.Goals as goal

pub returns : goal.returns
returns c = λ s t x. (converts_so s t x, converts_passes s t x)
