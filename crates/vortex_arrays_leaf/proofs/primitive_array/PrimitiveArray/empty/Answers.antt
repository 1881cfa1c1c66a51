use Rattle.std.proofs.Common.{rules}
use Rattle.vortex_arrays_core.proofs.array.ArrayRef.TheLaws.TheTie as laws
use Rattle.vortex_arrays_leaf.proofs.primitive_array.PrimitiveArray.empty.Goals as goal

pub returns-in_err-items : goal.returns-in_err-items
returns-in_err-items c = search (rules, laws.the_lemmas)
