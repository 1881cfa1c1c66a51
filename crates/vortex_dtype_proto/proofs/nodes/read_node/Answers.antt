use Rattle.std.proofs.Common.{arith}
use Rattle.std.proofs.lemmas.Grind.{common_steps}
use borrow.Author.Differences.{ints}
use Rattle.vortex_dtype_proto.proofs.nodes.read_node.Goals as goal

pub returns-in-Null : goal.returns-in-Null
returns-in-Null c = grind (ints, arith, common_steps)

pub returns-in-Decimal : goal.returns-in-Decimal
returns-in-Decimal c = grind (ints, arith, common_steps)

pub returns-in-List : goal.returns-in-List
returns-in-List c = grind (ints, arith, common_steps)

pub returns-in-FixedSizeList : goal.returns-in-FixedSizeList
returns-in-FixedSizeList c = grind (ints, arith, common_steps)

pub returns-in-Map : goal.returns-in-Map
returns-in-Map c = grind (ints, arith, common_steps)

pub returns-in-Struct : goal.returns-in-Struct
returns-in-Struct c = grind (ints, arith, common_steps)

pub returns-in-Union : goal.returns-in-Union
returns-in-Union c = grind (ints, arith, common_steps)

pub returns-in-Extension : goal.returns-in-Extension
returns-in-Extension c = grind (ints, arith, common_steps)
