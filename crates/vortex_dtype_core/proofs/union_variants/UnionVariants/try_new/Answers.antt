use Rattle.std.proofs.Common.{arith}
use Rattle.std.below.core.proofs.iter.Serving.{as_err}
use Rattle.vortex_dtype_core.proofs.Views.{one_level}
use Rattle.vortex_dtype_core.proofs.union_variants.UnionVariants.try_new.Goals as goal

pub returns-clause-accepted : goal.returns-clause-accepted
returns-clause-accepted c = grind (arith, one_level)

pub same-names : goal.same-names
same-names c = grind (arith, one_level)

pub returns-in_err-all-clause-made : goal.returns-in_err-all-clause-made
returns-in_err-all-clause-made c = grind (arith, (as_err c.from_residual.ensures.0).1)

pub returns-then-len-clause-accepted : goal.returns-then-len-clause-accepted
returns-then-len-clause-accepted c = grind (arith, one_level)

pub returns-then-len-clause-made : goal.returns-then-len-clause-made
returns-then-len-clause-made c = grind (arith, one_level)

pub returns-in_err-all-clause-refused : goal.returns-in_err-all-clause-refused
returns-in_err-all-clause-refused c = grind (arith, (as_err c.from_residual.ensures.0).1)

pub returns-clause-refused : goal.returns-clause-refused
returns-clause-refused c = grind (arith, one_level)

pub returns-in_err-all-clause-accepted : goal.returns-in_err-all-clause-accepted
returns-in_err-all-clause-accepted c = grind (arith, (as_err c.from_residual.ensures.0).1)

pub returns-clause-made : goal.returns-clause-made
returns-clause-made c = grind (arith, one_level)

pub returns-then-len-clause-refused : goal.returns-then-len-clause-refused
returns-then-len-clause-refused c = grind (arith, one_level)
