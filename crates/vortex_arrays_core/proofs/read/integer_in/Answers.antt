use Rattle.std.proofs.Common.{arith}
use Rattle.std.proofs.lemmas.Grind.{common_steps}
use Rattle.vortex_scalar_core.specs.contracts.scalar.Scalar.{the_row}
use borrow.Author.Differences.{ints}
use Rattle.vortex_arrays_core.proofs.read.integer_in.Goals as goal

pub returns-in-Some : goal.returns-in-Some
returns-in-Some c = grind (ints, arith, common_steps, (the_row).coded.inj)
