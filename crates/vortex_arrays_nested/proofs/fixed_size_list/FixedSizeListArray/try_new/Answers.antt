use Rattle.std.proofs.Common.{arith}
use Rattle.std.proofs.lemmas.Grind.{common_steps}
use Rattle.vortex_arrays_nested.proofs.fixed_size_list.FixedSizeListArray.try_new.Goals as goal

pub same-elements : goal.same-elements
same-elements c = grind (arith, common_steps)
