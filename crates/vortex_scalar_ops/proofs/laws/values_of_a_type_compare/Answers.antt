use Rattle.vortex_scalar_ops.proofs.Compared.{type_compares}
use Rattle.vortex_scalar_ops.proofs.laws.values_of_a_type_compare.Goals as goal

pub returns : goal.returns
returns c = type_compares
