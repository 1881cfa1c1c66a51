use Rattle.std.proofs.Common.{arith}
use Rattle.vortex_scalar_ops.proofs.LeafValues.{integers}
use Rattle.vortex_scalar_ops.proofs.leaves.cast_number.Goals as goal

pub returns-then-not-is_int-clause-when : goal.returns-then-not-is_int-clause-when
returns-then-not-is_int-clause-when c = grind (arith, integers)

pub returns-then-not-is_int-clause-number : goal.returns-then-not-is_int-clause-number
returns-then-not-is_int-clause-number c = grind (arith, integers)

pub returns-then-not-is_int-clause-valid : goal.returns-then-not-is_int-clause-valid
returns-then-not-is_int-clause-valid c = grind (arith, integers)

pub returns-then-not-is_int-clause-refused : goal.returns-then-not-is_int-clause-refused
returns-then-not-is_int-clause-refused c = grind (arith, integers)

pub returns-in_default-clause-when : goal.returns-in_default-clause-when
returns-in_default-clause-when c = grind (arith, integers)

pub returns-in_default-clause-number : goal.returns-in_default-clause-number
returns-in_default-clause-number c = grind (arith, integers)

pub returns-in_default-clause-valid : goal.returns-in_default-clause-valid
returns-in_default-clause-valid c = grind (arith, integers)

pub returns-in_default-clause-refused : goal.returns-in_default-clause-refused
returns-in_default-clause-refused c = grind (arith, integers)

pub returns-in-Some-cast_to-clause-when : goal.returns-in-Some-cast_to-clause-when
returns-in-Some-cast_to-clause-when c = grind (arith, integers)

pub returns-in-Some-cast_to-clause-number : goal.returns-in-Some-cast_to-clause-number
returns-in-Some-cast_to-clause-number c = grind (arith, integers)

pub returns-in-Some-cast_to-clause-valid : goal.returns-in-Some-cast_to-clause-valid
returns-in-Some-cast_to-clause-valid c = grind (arith, integers)

pub returns-in-Some-cast_to-clause-refused : goal.returns-in-Some-cast_to-clause-refused
returns-in-Some-cast_to-clause-refused c = grind (arith, integers)

pub returns-in-None-clause-when : goal.returns-in-None-clause-when
returns-in-None-clause-when c = grind (arith, integers)

pub returns-in-None-clause-number : goal.returns-in-None-clause-number
returns-in-None-clause-number c = grind (arith, integers)

pub returns-in-None-clause-valid : goal.returns-in-None-clause-valid
returns-in-None-clause-valid c = grind (arith, integers)

pub returns-in-None-clause-refused : goal.returns-in-None-clause-refused
returns-in-None-clause-refused c = grind (arith, integers)
