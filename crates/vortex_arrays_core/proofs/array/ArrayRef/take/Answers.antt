use Rattle.std.below.core.proofs.iter.Serving.{as_err}
use Rattle.std.proofs.Common.{arith}
use Rattle.std.proofs.lemmas.Grind.{common_steps}
use Rattle.vortex_arrays_core.proofs.Picked.{taken}
use Rattle.vortex_arrays_core.proofs.array.ArrayRef.take.Goals as goal

pub same-of_dict : goal.same-of_dict
same-of_dict c = grind (arith, common_steps)

pub returns-then-not-is_unsigned-clause-made : goal.returns-then-not-is_unsigned-clause-made
returns-then-not-is_unsigned-clause-made c = grind (arith, taken)

pub returns-then-not-is_unsigned-clause-refused : goal.returns-then-not-is_unsigned-clause-refused
returns-then-not-is_unsigned-clause-refused c = grind (arith, taken)

pub returns-then-not-are_within-clause-made : goal.returns-then-not-are_within-clause-made
returns-then-not-are_within-clause-made c = grind (arith, taken)

pub returns-then-not-are_within-clause-refused : goal.returns-then-not-are_within-clause-refused
returns-then-not-are_within-clause-refused c = grind (arith, taken)

pub returns-in_err-clone-clause-made : goal.returns-in_err-clone-clause-made
returns-in_err-clone-clause-made c = grind (arith, (as_err c.from_residual.ensures.0).1)

pub returns-in_err-clone-clause-refused : goal.returns-in_err-clone-clause-refused
returns-in_err-clone-clause-refused c = grind (arith, (as_err c.from_residual.ensures.0).1)

pub returns-in_err-clone-2-clause-made : goal.returns-in_err-clone-2-clause-made
returns-in_err-clone-2-clause-made c = grind (arith, (as_err c.from_residual-in_err-clone-2.ensures.0).1)

pub returns-in_err-clone-2-clause-refused : goal.returns-in_err-clone-2-clause-refused
returns-in_err-clone-2-clause-refused c = grind (arith, (as_err c.from_residual-in_err-clone-2.ensures.0).1)

pub returns-in_err-taken-clause-made : goal.returns-in_err-taken-clause-made
returns-in_err-taken-clause-made c = grind (arith, (as_err c.from_residual-in_err-taken.ensures.0).1)

pub returns-in_err-taken-clause-refused : goal.returns-in_err-taken-clause-refused
returns-in_err-taken-clause-refused c = grind (arith, (as_err c.from_residual-in_err-taken.ensures.0).1)

pub returns-clause-made : goal.returns-clause-made
returns-clause-made c = grind (arith, taken)

pub returns-clause-refused : goal.returns-clause-refused
returns-clause-refused c = grind (arith, taken)
