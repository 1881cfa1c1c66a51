use Rattle.std.proofs.Common.{arith}
use Rattle.vortex_dtype_path.proofs.Resolved.{parts}
use Rattle.vortex_dtype_path.proofs.resolve.part_along.Goals as goal

pub returns-in_err-position-in-Struct-Name : goal.returns-in_err-position-in-Struct-Name
returns-in_err-position-in-Struct-Name c = grind (arith, parts)

pub returns-in_ok-position-in-Struct-Name : goal.returns-in_ok-position-in-Struct-Name
returns-in_ok-position-in-Struct-Name c = grind (arith, parts)

pub returns-in-Struct-ElementType : goal.returns-in-Struct-ElementType
returns-in-Struct-ElementType c = grind (arith, parts)

pub returns-in-List-ElementType : goal.returns-in-List-ElementType
returns-in-List-ElementType c = grind (arith, parts)

pub returns-in-List-Name : goal.returns-in-List-Name
returns-in-List-Name c = grind (arith, parts)

pub returns-in-FixedSizeList-ElementType : goal.returns-in-FixedSizeList-ElementType
returns-in-FixedSizeList-ElementType c = grind (arith, parts)

pub returns-in-FixedSizeList-Name : goal.returns-in-FixedSizeList-Name
returns-in-FixedSizeList-Name c = grind (arith, parts)

pub returns-in-Primitive-default : goal.returns-in-Primitive-default
returns-in-Primitive-default c = grind (arith, parts)

pub returns-in-Map-default : goal.returns-in-Map-default
returns-in-Map-default c = grind (arith, parts)

pub returns-in-Union-default : goal.returns-in-Union-default
returns-in-Union-default c = grind (arith, parts)

pub returns-in-Extension-default : goal.returns-in-Extension-default
returns-in-Extension-default c = grind (arith, parts)
