use Rattle.vortex_scalar_ops.proofs.Compared.{plain_values}
use Rattle.vortex_scalar_ops.proofs.laws.plain_types_have_plain_values.Goals as goal

pub returns : goal.returns
returns c = plain_values
