use Rattle.std.proofs.Common.{arith}
use Rattle.std.below.core.proofs.iter.Serving.{as_err}
use Rattle.vortex_dtype_fields.proofs.Choices.{numbered}
use borrow.Author.Rules.{get_or_read}
use Rattle.vortex_dtype_fields.proofs.union_variants_ext.UnionVariantsUnionVariantsExt.new.Goals as goal

pub returns-clause-refused : goal.returns-clause-refused
returns-clause-refused c = grind (arith, numbered, get_or_read)

pub returns-clause-made : goal.returns-clause-made
returns-clause-made c = grind (arith, numbered, get_or_read)

pub returns-in_err-tags-clause-refused : goal.returns-in_err-tags-clause-refused
returns-in_err-tags-clause-refused c = grind (arith, (as_err c.from_residual.ensures.0).1)

pub returns-in_err-all-clause-made : goal.returns-in_err-all-clause-made
returns-in_err-all-clause-made c = grind (arith, (as_err c.from_residual-in_err-all.ensures.0).1)

pub returns-in_err-tags-clause-made : goal.returns-in_err-tags-clause-made
returns-in_err-tags-clause-made c = grind (arith, (as_err c.from_residual.ensures.0).1)

pub returns-in_err-all-clause-refused : goal.returns-in_err-all-clause-refused
returns-in_err-all-clause-refused c = grind (arith, numbered, get_or_read)
