use Rattle.std.below.core.proofs.iter.Serving.{returning}
use Rattle.std.proofs.Common.{rules, arith}
use Rattle.std.proofs.lemmas.Grind.{elements}
use Rattle.vortex_arrays_core.proofs.array.ArrayRef.TheLaws.TheTie as laws
use Rattle.vortex_arrays_leaf.proofs.primitive_array.PrimitiveArray.from_option_iter.Goals as goal

pub returns-in_err-items : goal.returns-in_err-items
returns-in_err-items c = search (rules, returning, laws.the_lemmas)

pub returns : goal.returns
returns c = grind (arith, elements)
