use Rattle.std.proofs.Common.{arith}
use Rattle.std.below.core.proofs.iter.Serving.{as_err}
use Rattle.vortex_arrays_struct.proofs.PairLemmas.{paired}
use borrow.Author.Rules.{get_or_read}
use Rattle.vortex_arrays_struct.proofs.struct_array.StructArray.of_pairs.Goals as goal

pub returns-in_err-names-clause-refused : goal.returns-in_err-names-clause-refused
returns-in_err-names-clause-refused c = grind (arith, (as_err c.from_residual-in_err-names.ensures.0).1)

pub returns-in_err-names-clause-made : goal.returns-in_err-names-clause-made
returns-in_err-names-clause-made c = grind (arith, (as_err c.from_residual-in_err-names.ensures.0).1)

pub returns-in_err-fields-clause-made : goal.returns-in_err-fields-clause-made
returns-in_err-fields-clause-made c = grind (arith, (as_err c.from_residual-in_err-fields.ensures.0).1)

pub returns-clause-refused : goal.returns-clause-refused
returns-clause-refused c = grind (arith, paired, get_or_read)

pub returns-in_err-check_len-clause-refused : goal.returns-in_err-check_len-clause-refused
returns-in_err-check_len-clause-refused c = grind (arith, (as_err c.from_residual.ensures.0).1)

pub returns-in_err-check_len-clause-made : goal.returns-in_err-check_len-clause-made
returns-in_err-check_len-clause-made c = grind (arith, (as_err c.from_residual.ensures.0).1)

pub returns-in_err-fields-clause-refused : goal.returns-in_err-fields-clause-refused
returns-in_err-fields-clause-refused c = grind (arith, (as_err c.from_residual-in_err-fields.ensures.0).1)

pub returns-in_err-names_of_pairs-clause-refused : goal.returns-in_err-names_of_pairs-clause-refused
returns-in_err-names_of_pairs-clause-refused c = grind (arith, (as_err c.from_residual-in_err-names_of_pairs.ensures.0).1)

pub returns-in_err-names_of_pairs-clause-made : goal.returns-in_err-names_of_pairs-clause-made
returns-in_err-names_of_pairs-clause-made c = grind (arith, (as_err c.from_residual-in_err-names_of_pairs.ensures.0).1)

pub returns-in_default-clause-made : goal.returns-in_default-clause-made
returns-in_default-clause-made c = grind (arith, paired, get_or_read)

pub returns-in_default-clause-refused : goal.returns-in_default-clause-refused
returns-in_default-clause-refused c = grind (arith, paired, get_or_read)

pub returns-clause-made : goal.returns-clause-made
returns-clause-made c = grind (arith, paired, get_or_read)
