-- Numbers that are added.
use Rattle.vortex_model.proofs.Ranges.{not_below, not_above}
use Rattle.vortex_scalar_value.proofs.Views as values

pub ruleset numbers = (values.one_level, not_below, not_above)
