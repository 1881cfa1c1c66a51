use Rattle.vortex_scalar_convert.proofs.defaults.Zeros.{only_zeros_are_zero}
use Rattle.vortex_scalar_convert.proofs.defaults.laws.only_zeros_are_zero.Goals as goal

pub returns : goal.returns
returns c = only_zeros_are_zero
