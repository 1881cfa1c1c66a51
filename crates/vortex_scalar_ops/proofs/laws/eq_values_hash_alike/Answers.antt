use Rattle.vortex_scalar_ops.proofs.Hashed.{eq_fed}
use Rattle.vortex_scalar_ops.proofs.laws.eq_values_hash_alike.Goals as goal

pub returns : goal.returns
returns c = eq_fed
