use Rattle.std.proofs.Common.{arith}
use Rattle.vortex_stats_expr.proofs.Classes.{of_types}
use Rattle.vortex_stats_expr.proofs.types.class_of.Goals as goal

pub returns-then-is_float : goal.returns-then-is_float
returns-then-is_float c = grind (arith, of_types)

pub returns-else-is_float : goal.returns-else-is_float
returns-else-is_float c = grind (arith, of_types)

pub returns-in-List : goal.returns-in-List
returns-in-List c = grind (arith, of_types)

pub returns-in-FixedSizeList : goal.returns-in-FixedSizeList
returns-in-FixedSizeList c = grind (arith, of_types)

pub returns-in-Map : goal.returns-in-Map
returns-in-Map c = grind (arith, of_types)

pub returns-in-Struct : goal.returns-in-Struct
returns-in-Struct c = grind (arith, of_types)

pub returns-in-Union : goal.returns-in-Union
returns-in-Union c = grind (arith, of_types)

pub returns-in-Extension : goal.returns-in-Extension
returns-in-Extension c = grind (arith, of_types)
