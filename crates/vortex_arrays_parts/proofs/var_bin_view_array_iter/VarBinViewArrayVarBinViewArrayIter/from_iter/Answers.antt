use Rattle.std.proofs.Common.{arith}
use Rattle.std.proofs.lemmas.Grind.{elements}
use Rattle.vortex_arrays_parts.proofs.var_bin_view_array_iter.VarBinViewArrayVarBinViewArrayIter.from_iter.Goals as goal

pub returns-clause-made : goal.returns-clause-made
returns-clause-made g c = grind (arith, elements)
