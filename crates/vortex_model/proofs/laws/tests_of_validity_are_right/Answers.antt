use Rattle.vortex_model.specs.LogicalType.{stored}
use Rattle.vortex_model.proofs.Passes.{has_passes}
use Rattle.vortex_model.proofs.Tests.{has_so}
use Rattle.vortex_model.proofs.laws.tests_of_validity_are_right.Goals as goal

pub returns : goal.returns
returns c = λ k r. (has_so (stored k) r, has_passes (stored k) r)
