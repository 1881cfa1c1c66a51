use Rattle.std.proofs.Common.{arith}
use Rattle.vortex_dtype_core.proofs.Views.{one_level}
use Rattle.vortex_dtype_core.proofs.dtype.DType.+nullability.Goals as goal

pub returns-in-Primitive : goal.returns-in-Primitive
returns-in-Primitive t c = grind (arith, one_level)

pub returns-in-FixedSizeList : goal.returns-in-FixedSizeList
returns-in-FixedSizeList t c = grind (arith, one_level)

pub returns-in-Map : goal.returns-in-Map
returns-in-Map t c = grind (arith, one_level)

pub returns-in-Union : goal.returns-in-Union
returns-in-Union t c = grind (arith, one_level)

pub returns-in-List : goal.returns-in-List
returns-in-List t c = grind (arith, one_level)

pub returns-in-Struct : goal.returns-in-Struct
returns-in-Struct t c = grind (arith, one_level)
