use Rattle.std.proofs.Common.{sym}
use Rattle.vortex_stats_bound.specs.Precision.{precision_of}
use Rattle.vortex_stats_evaluate.proofs.Told.{value_typed}
use Rattle.vortex_stats_evaluate.proofs.stat_scalar.stored.Goals as goal

pub returns-in-Some-clause-valid : goal.returns-in-Some-clause-valid
returns-in-Some-clause-valid c l e =
    value_typed (precision_of c.in_ok-get.field-0) c.in-Some.scalar l _ (sym c.in-Some.ensures) (c.in_ok-get.ensures.dtype l e) c.into_value.ensures.is_valid
