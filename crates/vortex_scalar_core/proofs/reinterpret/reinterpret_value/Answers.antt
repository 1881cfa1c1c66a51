use Rattle.std.proofs.Common.{arith}
use Rattle.vortex_scalar_core.proofs.Reinterpreted.{values}
use borrow.Author.Differences.{ints}
use Rattle.vortex_scalar_core.proofs.reinterpret.reinterpret_value.Goals as goal

pub unreachable-unreachable : goal.unreachable-unreachable
unreachable-unreachable c = grind (ints, arith, values)

pub returns-in-None-clause-bytes : goal.returns-in-None-clause-bytes
returns-in-None-clause-bytes c = grind (ints, arith, values)

pub returns-in-None-clause-valid : goal.returns-in-None-clause-valid
returns-in-None-clause-valid c = grind (ints, arith, values)
