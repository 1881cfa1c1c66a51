use Rattle.vortex_scalar_convert.proofs.defaults.Zeros.{defaults_are_values}
use Rattle.vortex_scalar_convert.proofs.defaults.laws.defaults_are_values.Goals as goal

pub returns : goal.returns
returns c = defaults_are_values
