use Rattle.std.proofs.Common.{arith}
use Rattle.vortex_dtype_core.proofs.Others.{leaves}
use Rattle.vortex_dtype_core.proofs.dtype.DType.is_leaf.Goals as goal

pub returns-in-List-3 : goal.returns-in-List-3
returns-in-List-3 c = grind (arith, leaves)

pub returns-in-List : goal.returns-in-List
returns-in-List c = grind (arith, leaves)

pub returns-in-List-2 : goal.returns-in-List-2
returns-in-List-2 c = grind (arith, leaves)

pub returns-in-Struct : goal.returns-in-Struct
returns-in-Struct c = grind (arith, leaves)

pub returns-in-Struct-3 : goal.returns-in-Struct-3
returns-in-Struct-3 c = grind (arith, leaves)

pub returns-in-Struct-2 : goal.returns-in-Struct-2
returns-in-Struct-2 c = grind (arith, leaves)

pub returns-in-Primitive : goal.returns-in-Primitive
returns-in-Primitive c = grind (arith, leaves)
