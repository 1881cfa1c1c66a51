use Rattle.std.proofs.Common.{arith}
use Rattle.std.proofs.lemmas.Grind.{common_steps}
use Rattle.vortex_arrays_nested.proofs.dict_array.DictArray.into_parts.Goals as goal

pub same-codes : goal.same-codes
same-codes c = grind (arith, common_steps)
