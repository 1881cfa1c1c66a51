use Rattle.vortex_scalar_convert.proofs.defaults.Zeros.{zeros_exist}
use Rattle.vortex_scalar_convert.proofs.defaults.laws.zeros_exist.Goals as goal

pub returns : goal.returns
returns c = zeros_exist
