use Rattle.std.proofs.Common.{arith}
use Rattle.std.proofs.lemmas.Grind.{elements}
use borrow.Author.Differences.{ints}
use Rattle.vortex_arrays_builder.proofs.leaves.number_or_zero.Goals as goal

pub returns : goal.returns
returns c = grind (ints, arith, elements)
