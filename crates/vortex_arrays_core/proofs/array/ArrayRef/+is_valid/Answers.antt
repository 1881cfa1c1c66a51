use Rattle.std.proofs.Common.{arith}
use Rattle.std.proofs.lemmas.Grind.{common_steps}
use borrow.Author.Differences.{ints}
use Rattle.vortex_arrays_core.proofs.Reading.{nulls}
use borrow.Author.Rules.{get_or_read}
use Rattle.vortex_arrays_core.proofs.array.ArrayRef.+is_valid.Goals as goal

pub overflow_cast-code : goal.overflow_cast-code
overflow_cast-code t c = grind (ints, arith, common_steps)

pub returns-in-Bool : goal.returns-in-Bool
returns-in-Bool t c = grind (ints, arith, nulls, get_or_read)

pub returns-in-Primitive : goal.returns-in-Primitive
returns-in-Primitive t c = grind (ints, arith, nulls, get_or_read)

pub returns-in-VarBinView : goal.returns-in-VarBinView
returns-in-VarBinView t c = grind (ints, arith, nulls, get_or_read)

pub returns-in-Constant : goal.returns-in-Constant
returns-in-Constant t c = grind (ints, arith, nulls, get_or_read)

pub returns-in-Some : goal.returns-in-Some
returns-in-Some t c = grind (ints, arith, nulls, get_or_read)

pub returns-in-None : goal.returns-in-None
returns-in-None t c = grind (ints, arith, nulls, get_or_read)

pub returns-in-FixedSizeList : goal.returns-in-FixedSizeList
returns-in-FixedSizeList t c = grind (ints, arith, nulls, get_or_read)

pub returns-in-ListView : goal.returns-in-ListView
returns-in-ListView t c = grind (ints, arith, nulls, get_or_read)

pub returns-in-Struct : goal.returns-in-Struct
returns-in-Struct t c = grind (ints, arith, nulls, get_or_read)
