use Rattle.std.proofs.Common.{arith}
use Rattle.std.proofs.lemmas.Grind.{common_steps}
use Rattle.vortex_arrays_nested.proofs.dict_array.DictArray.try_new.Goals as goal

pub same-codes : goal.same-codes
same-codes c = grind (arith, common_steps)

pub same-values : goal.same-values
same-values c = grind (arith, common_steps)
