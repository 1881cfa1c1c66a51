use Rattle.std.proofs.Common.{arith}
use Rattle.vortex_dtype_core.proofs.Tests.{decided}
use Rattle.vortex_dtype_core.proofs.struct_fields.StructFields.eq_ignore_nullability.Goals as goal

pub returns-clause-test : goal.returns-clause-test
returns-clause-test c = grind (arith, decided)

pub returns-clause-equal : goal.returns-clause-equal
returns-clause-equal c = grind (arith, decided)
