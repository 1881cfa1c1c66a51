use Rattle.std.proofs.Common.{arith}
use Rattle.vortex_dtype_core.proofs.Others.{unwrapped}
use borrow.Author.Rules.{get_or_read}
use Rattle.vortex_dtype_core.proofs.dtype.DType.+stored_dtype.Goals as goal

pub returns-in-List : goal.returns-in-List
returns-in-List t c = grind (arith, unwrapped)

pub returns-in-List-2 : goal.returns-in-List-2
returns-in-List-2 t c = grind (arith, unwrapped)

pub returns-in-List-3 : goal.returns-in-List-3
returns-in-List-3 t c = grind (arith, unwrapped)

pub returns-in-Extension : goal.returns-in-Extension
returns-in-Extension t c = grind (arith, unwrapped, get_or_read)

pub returns-in-Struct : goal.returns-in-Struct
returns-in-Struct t c = grind (arith, unwrapped)

pub returns-in-Null-3 : goal.returns-in-Null-3
returns-in-Null-3 t c = grind (arith, unwrapped)

pub returns-in-Struct-2 : goal.returns-in-Struct-2
returns-in-Struct-2 t c = grind (arith, unwrapped)
