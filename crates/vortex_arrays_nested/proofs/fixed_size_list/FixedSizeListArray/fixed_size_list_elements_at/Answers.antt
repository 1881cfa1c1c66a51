use Rattle.std.proofs.Common.{arith}
use Rattle.std.proofs.lemmas.Grind.{common_steps, rows}
use Rattle.vortex_arrays_nested.proofs.fixed_size_list.FixedSizeListArray.fixed_size_list_elements_at.Goals as goal

pub returns-clause-refused : goal.returns-clause-refused
returns-clause-refused c = grind (arith, common_steps, rows)
