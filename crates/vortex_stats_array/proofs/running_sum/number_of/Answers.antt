use Rattle.vortex_dtype_ptype.specs.View.{number_kind_of}
use Rattle.vortex_stats_array.proofs.OwnTypes.{some_kind}
use Rattle.vortex_stats_array.proofs.running_sum.number_of.Goals as goal

pub returns-clause-kind : goal.returns-clause-kind
returns-clause-kind c = some_kind c.of.result (number_kind_of c.args.ptype) c.of.ensures.kind
