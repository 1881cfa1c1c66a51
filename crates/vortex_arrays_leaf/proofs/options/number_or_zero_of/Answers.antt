use Rattle.std.proofs.Common.{arith}
use Rattle.std.proofs.lemmas.Grind.{elements}
use borrow.Author.Differences.{ints}
use Rattle.vortex_arrays_leaf.proofs.options.number_or_zero_of.Goals as goal

pub returns-in-Some-of : goal.returns-in-Some-of
returns-in-Some-of c = grind (ints, arith, elements)
