use Rattle.std.proofs.Common.{arith}
use Rattle.vortex_dtype_core.proofs.Others.{records}
use Rattle.vortex_dtype_core.proofs.dtype.DType.into_struct_fields_opt.Goals as goal

pub returns-2 : goal.returns-2
returns-2 c = grind (arith, records)

pub returns-in-Utf8 : goal.returns-in-Utf8
returns-in-Utf8 c = grind (arith, records)

pub returns-in-Struct : goal.returns-in-Struct
returns-in-Struct c = grind (arith, records)

pub returns-in-Null : goal.returns-in-Null
returns-in-Null c = grind (arith, records)

pub returns : goal.returns
returns c = grind (arith, records)
