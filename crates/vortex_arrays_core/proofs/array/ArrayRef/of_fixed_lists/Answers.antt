use Rattle.std.proofs.Common.{arith}
use Rattle.std.proofs.lemmas.Grind.{common_steps}
use Rattle.vortex_arrays_core.proofs.array.ArrayRef.of_fixed_lists.Goals as goal

pub same-elements : goal.same-elements
same-elements c = grind (arith, common_steps)
