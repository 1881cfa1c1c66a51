use Rattle.vortex_model.specs.LogicalType.{bare}
use Rattle.vortex_model.proofs.Passes.{kinds_pass}
use Rattle.vortex_model.proofs.Tests.{kind_so}
use Rattle.vortex_model.proofs.laws.tests_of_equality_are_right.Goals as goal

pub returns : goal.returns
returns c = λ k l. ((kind_so k l, kinds_pass k l), (kind_so (bare k) (bare l), kinds_pass (bare k) (bare l)))
