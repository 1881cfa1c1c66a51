use Rattle.std.proofs.Common.{arith}
use Rattle.vortex_dtype_core.proofs.Views.{one_level}
use Rattle.vortex_dtype_core.proofs.dtype.DTypeClone.clone.Goals as goal

pub returns-in-Null : goal.returns-in-Null
returns-in-Null c = grind (arith, one_level)

pub returns-in-Bool : goal.returns-in-Bool
returns-in-Bool c = grind (arith, one_level)

pub returns-in-Primitive : goal.returns-in-Primitive
returns-in-Primitive c = grind (arith, one_level)

pub returns-in-Decimal : goal.returns-in-Decimal
returns-in-Decimal c = grind (arith, one_level)

pub returns-in-Utf8 : goal.returns-in-Utf8
returns-in-Utf8 c = grind (arith, one_level)

pub returns-in-Binary : goal.returns-in-Binary
returns-in-Binary c = grind (arith, one_level)

pub returns-in_ok-clone-in-List : goal.returns-in_ok-clone-in-List
returns-in_ok-clone-in-List c = grind (arith, one_level)

pub returns-in_ok-clone-in-FixedSizeList : goal.returns-in_ok-clone-in-FixedSizeList
returns-in_ok-clone-in-FixedSizeList c = grind (arith, one_level)

pub returns-in_ok-clone-in-Map : goal.returns-in_ok-clone-in-Map
returns-in_ok-clone-in-Map c = grind (arith, one_level)

pub returns-in_ok-clone-in-Struct : goal.returns-in_ok-clone-in-Struct
returns-in_ok-clone-in-Struct c = grind (arith, one_level)

pub returns-in_ok-clone-in-Union : goal.returns-in_ok-clone-in-Union
returns-in_ok-clone-in-Union c = grind (arith, one_level)

pub returns-in-Variant : goal.returns-in-Variant
returns-in-Variant c = grind (arith, one_level)

pub returns-in_ok-clone-in-Extension : goal.returns-in_ok-clone-in-Extension
returns-in_ok-clone-in-Extension c = grind (arith, one_level)
