use Rattle.std.proofs.Common.{arith}
use Rattle.vortex_dtype_core.proofs.Tests.{maps_decided}
use Rattle.vortex_dtype_core.proofs.eq.MapDTypePartialEq.eq.Goals as goal

pub returns-clause-test : goal.returns-clause-test
returns-clause-test c = grind (arith, maps_decided)

pub returns-clause-equal : goal.returns-clause-equal
returns-clause-equal c = grind (arith, maps_decided)
