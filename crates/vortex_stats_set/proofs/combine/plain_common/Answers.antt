use Rattle.std.proofs.Common.{rules}
use Rattle.vortex_stats_bound.specs.Precision.{precision_of}
use Rattle.vortex_stats_set.proofs.Values.{plain_shared}
use Rattle.vortex_stats_set.proofs.combine.plain_common.Goals as goal

pub returns-in-Some-Value : goal.returns-in-Some-Value
returns-in-Some-Value c = plain_shared (precision_of c.args.left) (precision_of c.args.right) (precision_of c.in-Some-Value.value) (search rules)
