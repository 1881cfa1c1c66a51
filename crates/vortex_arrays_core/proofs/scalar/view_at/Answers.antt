use Rattle.std.proofs.Common.{arith}
use borrow.Author.Differences.{ints}
use Rattle.vortex_arrays_model.proofs.CanonicalLemmas.{offsets_are_integers}
use Rattle.vortex_arrays_core.proofs.scalar.view_at.Goals as goal

pub overflow_cast-result : goal.overflow_cast-result
overflow_cast-result c = grind (ints, arith, offsets_are_integers)

pub overflow_cast-result-in-Some-Some : goal.overflow_cast-result-in-Some-Some
overflow_cast-result-in-Some-Some c = grind (ints, arith, offsets_are_integers)

pub unreachable-unreachable : goal.unreachable-unreachable
unreachable-unreachable c = grind (ints, arith, offsets_are_integers)

pub returns-clause-start : goal.returns-clause-start
returns-clause-start c = grind (ints, arith, offsets_are_integers)

pub returns-clause-size : goal.returns-clause-size
returns-clause-size c = grind (ints, arith, offsets_are_integers)

pub returns-clause-within : goal.returns-clause-within
returns-clause-within c = grind (ints, arith, offsets_are_integers)
