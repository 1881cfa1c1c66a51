use Rattle.std.proofs.Common.{arith}
use Rattle.vortex_dtype_core.proofs.Others.{any_lists}
use borrow.Author.Rules.{get_or_read}
use Rattle.vortex_dtype_core.proofs.dtype.DType.as_any_size_list_element_opt.Goals as goal

pub returns-in-List : goal.returns-in-List
returns-in-List c = grind (arith, any_lists, get_or_read)

pub returns-in-Union : goal.returns-in-Union
returns-in-Union c = grind (arith, any_lists)

pub returns-in-FixedSizeList : goal.returns-in-FixedSizeList
returns-in-FixedSizeList c = grind (arith, any_lists, get_or_read)

pub returns-in-Map : goal.returns-in-Map
returns-in-Map c = grind (arith, any_lists)
