-- The trees of types and of values, one level at a time.
use Rattle.vortex_dtype_core.proofs.Views.{one_level as of_types}
use Rattle.vortex_scalar_value.proofs.Views.{one_level as of_values}

pub ruleset one_level = (of_types, of_values)
