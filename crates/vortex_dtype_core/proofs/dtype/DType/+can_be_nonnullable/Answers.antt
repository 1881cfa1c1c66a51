use Rattle.std.proofs.Common.{arith}
use Rattle.vortex_dtype_core.proofs.Views.{one_level}
use Rattle.vortex_dtype_core.proofs.dtype.DType.+can_be_nonnullable.Goals as goal

pub returns-in-List : goal.returns-in-List
returns-in-List t c = grind (arith, one_level)

pub returns-in-List-2 : goal.returns-in-List-2
returns-in-List-2 t c = grind (arith, one_level)

pub returns-in-List-3 : goal.returns-in-List-3
returns-in-List-3 t c = grind (arith, one_level)

pub returns-in-Bool-2 : goal.returns-in-Bool-2
returns-in-Bool-2 t c = grind (arith, one_level)

pub returns-in-Struct : goal.returns-in-Struct
returns-in-Struct t c = grind (arith, one_level)

pub returns-in-Struct-2 : goal.returns-in-Struct-2
returns-in-Struct-2 t c = grind (arith, one_level)
