use Rattle.vortex_scalar_convert.proofs.defaults.Zeros.{zeros_are_zero}
use Rattle.vortex_scalar_convert.proofs.defaults.laws.zeros_are_zero.Goals as goal

pub returns : goal.returns
returns c = zeros_are_zero
