use Rattle.std.proofs.Common.{rules}
use Rattle.vortex_stats_bound.specs.Precision.{precision_of}
use Rattle.vortex_stats_set.proofs.Values.{lower_shared}
use Rattle.vortex_stats_set.proofs.combine.lower_common.Goals as goal

pub returns-in-Some-Value : goal.returns-in-Some-Value
returns-in-Some-Value c = lower_shared (precision_of c.args.left) (precision_of c.args.right) (precision_of c.into_value.result) (search rules)
