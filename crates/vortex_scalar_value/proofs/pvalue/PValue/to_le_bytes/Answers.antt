use Rattle.std.proofs.Common.{arith}
use Rattle.std.proofs.lemmas.Grind.{common_steps}
use borrow.Author.Differences.{ints}
use Rattle.vortex_scalar_value.proofs.pvalue.PValue.to_le_bytes.Goals as goal

pub returns-in-I8-clause-width : goal.returns-in-I8-clause-width
returns-in-I8-clause-width c = grind (ints, arith, common_steps)

pub returns-in-U8-clause-width : goal.returns-in-U8-clause-width
returns-in-U8-clause-width c = grind (ints, arith, common_steps)

pub returns-in-I32-clause-within : goal.returns-in-I32-clause-within
returns-in-I32-clause-within c = grind (ints, arith, common_steps)

pub returns-in-U64-clause-width : goal.returns-in-U64-clause-width
returns-in-U64-clause-width c = grind (ints, arith, common_steps)

pub returns-in-I64-clause-within : goal.returns-in-I64-clause-within
returns-in-I64-clause-within c = grind (ints, arith, common_steps)

pub returns-in-U16-clause-bytes : goal.returns-in-U16-clause-bytes
returns-in-U16-clause-bytes c = grind (ints, arith, common_steps)

pub returns-in-U64-clause-within : goal.returns-in-U64-clause-within
returns-in-U64-clause-within c = grind (ints, arith, common_steps)

pub returns-in-U8-clause-bytes : goal.returns-in-U8-clause-bytes
returns-in-U8-clause-bytes c = grind (ints, arith, common_steps)

pub returns-in-U32-clause-within : goal.returns-in-U32-clause-within
returns-in-U32-clause-within c = grind (ints, arith, common_steps)

pub returns-in-U8-clause-within : goal.returns-in-U8-clause-within
returns-in-U8-clause-within c = grind (ints, arith, common_steps)

pub returns-in-I32-clause-width : goal.returns-in-I32-clause-width
returns-in-I32-clause-width c = grind (ints, arith, common_steps)

pub returns-in-I64-clause-width : goal.returns-in-I64-clause-width
returns-in-I64-clause-width c = grind (ints, arith, common_steps)

pub returns-in-I16-clause-bytes : goal.returns-in-I16-clause-bytes
returns-in-I16-clause-bytes c = grind (ints, arith, common_steps)

pub returns-in-U64-clause-bytes : goal.returns-in-U64-clause-bytes
returns-in-U64-clause-bytes c = grind (ints, arith, common_steps)

pub returns-in-I64-clause-bytes : goal.returns-in-I64-clause-bytes
returns-in-I64-clause-bytes c = grind (ints, arith, common_steps)

pub returns-in-I16-clause-within : goal.returns-in-I16-clause-within
returns-in-I16-clause-within c = grind (ints, arith, common_steps)

pub returns-in-I32-clause-bytes : goal.returns-in-I32-clause-bytes
returns-in-I32-clause-bytes c = grind (ints, arith, common_steps)

pub returns-in-U16-clause-within : goal.returns-in-U16-clause-within
returns-in-U16-clause-within c = grind (ints, arith, common_steps)

pub returns-in-U32-clause-bytes : goal.returns-in-U32-clause-bytes
returns-in-U32-clause-bytes c = grind (ints, arith, common_steps)

pub returns-in-I8-clause-within : goal.returns-in-I8-clause-within
returns-in-I8-clause-within c = grind (ints, arith, common_steps)

pub returns-in-U16-clause-width : goal.returns-in-U16-clause-width
returns-in-U16-clause-width c = grind (ints, arith, common_steps)

pub returns-in-U32-clause-width : goal.returns-in-U32-clause-width
returns-in-U32-clause-width c = grind (ints, arith, common_steps)

pub returns-in-I16-clause-width : goal.returns-in-I16-clause-width
returns-in-I16-clause-width c = grind (ints, arith, common_steps)

pub returns-in-I8-clause-bytes : goal.returns-in-I8-clause-bytes
returns-in-I8-clause-bytes c = grind (ints, arith, common_steps)
